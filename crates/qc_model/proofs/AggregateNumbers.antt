-- The aggregates of a scope are those with its numbers.
use Rattle.std.proofs.Common.{◌≡◌, refl, ◌≤◌, ◌<◌, ℕ, zero, suc, List, [], ◌∷◌, length, Option, Some, None, slice_get, arith, eqb-true, eq-eqb}
use Rattle.std.specs.Prelude.{◌↔◌, IsTrue}
use Rattle.qc_model.specs.declared.problem.Aggregate.{Aggregate}
use Rattle.qc_model.specs.Content.{Game}
use Rattle.qc_model.specs.Game.{aggregates_before}
use Rattle.qc_model.specs.Sees.{stands_in}
use Rattle.qc_model.specs.Valid.{IsValid}
use Rattle.qc_model.proofs.InOrder.{stands_before, stands_after, below_within}

past_end : {X : Type 0} (xs : List X) (k : ℕ) → slice_get xs k ≡ None → length xs ≤ k
past_end [] k e = omega arith
past_end (x ∷ xs) zero e = cc
past_end (x ∷ xs) (suc k) e = let r = past_end xs k e in omega (arith, r)

pub numbers_are_own : (g : Game) → IsValid g → (i q : ℕ) → IsTrue (stands_in i (slice_get g.aggregates q)) ↔ ((aggregates_before g i ≤ q) × (q < aggregates_before g (suc i)))
numbers_are_own g v i q = by (slice_get g.aggregates q) refl
  where
    by : (o : Option Aggregate) → slice_get g.aggregates q ≡ o → IsTrue (stands_in i o) ↔ ((aggregates_before g i ≤ q) × (q < aggregates_before g (suc i)))
    by None e = (
      λ h. cc,
      λ h. (let n = past_end g.aggregates q e in let m = below_within (λ (a : Aggregate). a.scope.0) (suc i) g.aggregates in let l = h.1 in absurd (omega (arith, n, m, l))),
    )
    by (Some a) e = (
      λ h. (let same = eqb-true a.scope.0 i h in (
        stands_after (λ (a : Aggregate). a.scope.0) (length g.scopes) i g.aggregates q a v.aggregate_order e (omega (arith, same)),
        stands_before (λ (a : Aggregate). a.scope.0) (length g.scopes) (suc i) g.aggregates q a v.aggregate_order e (omega (arith, same)),
      )),
      λ h. eq-eqb a.scope.0 i (between h.0 h.1),
    )
      where
        apart : (a.scope.0 < i → ⊥) → (suc i ≤ a.scope.0 → ⊥) → a.scope.0 ≡ i
        apart n m = omega (arith, n, m)

        between : aggregates_before g i ≤ q → q < aggregates_before g (suc i) → a.scope.0 ≡ i
        between low high = apart (λ l. (let m = stands_before (λ (a : Aggregate). a.scope.0) (length g.scopes) i g.aggregates q a v.aggregate_order e l in omega (arith, m, low)))
            (λ l. (let m = stands_after (λ (a : Aggregate). a.scope.0) (length g.scopes) (suc i) g.aggregates q a v.aggregate_order e l in omega (arith, m, high)))
