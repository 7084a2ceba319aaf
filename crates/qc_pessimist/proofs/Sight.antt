-- Conditions and folds see in the new game what they saw in the old one.
use Rattle.std.proofs.Common.{◌≡◌, refl, sym, ap, ◌∙◌, subst, ℕ, zero, suc, ◌+◌, ◌<◌, Bool, true, false, cond, List, [], ◌∷◌, ◌++◌, map, filter, drop, length, arith}
use Rattle.std.specs.Prelude.{◌==◌, Option, Some, None, slice_get}
use Rattle.qc_model.specs.declared.problem.Kind.{Kind}
use Rattle.qc_model.specs.declared.problem.Kind.TheVariants.{Exists, Forall}
use Rattle.qc_model.specs.declared.problem.Target.{Target}
use Rattle.qc_model.specs.declared.problem.Target.TheVariants.{Var, Aggregate as Agg}
use Rattle.qc_model.specs.declared.problem.Condition.{Condition}
use Rattle.qc_model.specs.declared.problem.Aggregate.{Aggregate}
use Rattle.qc_model.specs.declared.problem.Scope.{Scope}
use Rattle.qc_model.specs.Content.{Game}
use Rattle.qc_model.specs.Game.{before}
use Rattle.qc_model.specs.Sees.{stands_in, IsVisibleHere, AtUniversal, IsVisible, ConditionSees, AggregatesSee, aggregates_in, ScopeSees, SeesRight}
use Rattle.qc_pessimist.specs.Worst.{chosen_wish}
use Rattle.qc_pessimist.specs.Opposed.{added, with_opposing, moved, move_aggregate, opposed_game}
use Rattle.qc_pessimist.proofs.Numbers.{moved_eq, moved_next, moved_zero, drop_none, drop_next}
use Rattle.qc_pessimist.proofs.Agree.{before_moved}

stands_same : (f : ℕ → ℕ) (m n : ℕ) → ((k : ℕ) → (f k == m) ≡ (k == n)) → (qs : List Aggregate) (k : ℕ) → stands_in m (slice_get (map (move_aggregate f) qs) k) ≡ stands_in n (slice_get qs k)
stands_same f m n e [] k = refl
stands_same f m n e (x ∷ qs) zero = e x.scope.0
stands_same f m n e (x ∷ qs) (suc k) = stands_same f m n e qs k

-- the aggregates of a scope keep their targets
owned_same : (f : ℕ → ℕ) (m n : ℕ) → ((k : ℕ) → (f k == m) ≡ (k == n)) → (qs : List Aggregate) →
    filter (λ (x : Aggregate). x.scope.0 == m) (map (move_aggregate f) qs) ≡ map (move_aggregate f) (filter (λ (x : Aggregate). x.scope.0 == n) qs)
owned_same f m n e [] = refl
owned_same f m n e (x ∷ qs) =
    ap (λ b. cond b (move_aggregate f x ∷ filter (λ (x : Aggregate). x.scope.0 == m) (map (move_aggregate f) qs)) (filter (λ (x : Aggregate). x.scope.0 == m) (map (move_aggregate f) qs))) (e x.scope.0)
    ∙ ap (λ ys. cond (x.scope.0 == n) (move_aggregate f x ∷ ys) ys) (owned_same f m n e qs)
    ∙ by (x.scope.0 == n)
  where
    by : (b : Bool) → cond b (move_aggregate f x ∷ map (move_aggregate f) (filter (λ (x : Aggregate). x.scope.0 == n) qs)) (map (move_aggregate f) (filter (λ (x : Aggregate). x.scope.0 == n) qs))
        ≡ map (move_aggregate f) (cond b (x ∷ filter (λ (x : Aggregate). x.scope.0 == n) qs) (filter (λ (x : Aggregate). x.scope.0 == n) qs))
    by true = refl
    by false = refl

universal : (k : Kind) (A B C D : Type 0) → (A → C) → (B → D) → AtUniversal k A B → AtUniversal k C D
universal Exists A B C D f e h = e h
universal Forall A B C D f e h = f h

module _ (q : ℕ → Bool) (g : Game) where
  var_still : (x i : ℕ) → x < before g i → x < before (opposed_game q g) (moved q 0 g.scopes i)
  var_still x i h = subst (λ n. x < n) (sym (before_moved q g i)) h

  here_still : (t : Target) (i : ℕ) → IsVisibleHere g i t → IsVisibleHere (opposed_game q g) (moved q 0 g.scopes i) t
  here_still (Var x) i h = var_still x.0 i h
  here_still (Agg k) i h = stands_same (moved q 0 g.scopes) (moved q 0 g.scopes i) i (λ n. moved_eq q 0 g.scopes n i) g.aggregates k.0 ∙ h

  -- past the scopes added for a wish
  past_added : (w : Option Condition) (later : List Scope) (j n : ℕ) (t : Target) → n ≡ suc (j + length (added w)) → IsVisible (opposed_game q g) later n t →
      IsVisible (opposed_game q g) (added w ++ later) (suc j) t
  past_added None later j n t e h = subst (λ m. IsVisible (opposed_game q g) later m t) (e ∙ plain j) h
    where
      plain : (j : ℕ) → suc (j + 0) ≡ suc j
      plain j = omega arith
  past_added (Some c) later j n t e h = subst (λ m. IsVisible (opposed_game q g) later m t) (e ∙ one_more j) h
    where
      one_more : (j : ℕ) → suc (j + 1) ≡ suc (suc j)
      one_more j = omega arith

  still_visible : (later : List Scope) (i : ℕ) → drop i g.scopes ≡ later → (t : Target) → IsVisible g later i t → IsVisible (opposed_game q g) (with_opposing q i later) (moved q 0 g.scopes i) t
  still_visible [] i e (Var x) h = var_still x.0 i h
  still_visible [] i e (Agg k) h = h
  still_visible (s ∷ later) i e t h =
      universal s.kind (IsVisibleHere g i t) (IsVisible g later (suc i) t) (IsVisibleHere (opposed_game q g) (moved q 0 g.scopes i) t)
      (IsVisible (opposed_game q g) (added (chosen_wish (q i) s.kind s.condition) ++ with_opposing q (suc i) later) (suc (moved q 0 g.scopes i)) t)
      (here_still t i)
      (λ v. past_added (chosen_wish (q i) s.kind s.condition) (with_opposing q (suc i) later) (moved q 0 g.scopes i) (moved q 0 g.scopes (suc i)) t
      (moved_next q 0 i i g.scopes s later (omega arith) e) (still_visible later (suc i) (drop_next i g.scopes s later e) t v)) h

  -- what stands after scope i, old and new
  after_scope : (s : Scope) (later : List Scope) (i : ℕ) → drop i g.scopes ≡ s ∷ later → (t : Target) → IsVisible g later (suc i) t →
      IsVisible (opposed_game q g) (added (chosen_wish (q i) s.kind s.condition) ++ with_opposing q (suc i) later) (suc (moved q 0 g.scopes i)) t
  after_scope s later i e t h =
      past_added (chosen_wish (q i) s.kind s.condition) (with_opposing q (suc i) later) (moved q 0 g.scopes i) (moved q 0 g.scopes (suc i)) t
      (moved_next q 0 i i g.scopes s later (omega arith) e) (still_visible later (suc i) (drop_next i g.scopes s later e) t h)

  condition_still : (l m : List Scope) (i j : ℕ) → ((t : Target) → IsVisible g l i t → IsVisible (opposed_game q g) m j t) → (x : Option Condition) →
      ConditionSees g l i x → ConditionSees (opposed_game q g) m j x
  condition_still l m i j f None h = tt
  condition_still l m i j f (Some c) h = f c.target h

  aggregates_still : (l m : List Scope) (i j : ℕ) → ((t : Target) → IsVisible g l i t → IsVisible (opposed_game q g) m j t) → (qs : List Aggregate) →
      AggregatesSee g l i qs → AggregatesSee (opposed_game q g) m j (map (move_aggregate (moved q 0 g.scopes)) qs)
  aggregates_still l m i j f [] h = tt
  aggregates_still l m i j f (x ∷ qs) h = (f x.target h.0, aggregates_still l m i j f qs h.1)

  scope_still : (k : Kind) (l m : List Scope) (i j : ℕ) → ((t : Target) → IsVisible g l i t → IsVisible (opposed_game q g) m j t) → (x : Option Condition) (n : ℕ) →
      ScopeSees k g l i x (aggregates_in g n) → ScopeSees k (opposed_game q g) m j x (aggregates_in (opposed_game q g) (moved q 0 g.scopes n))
  scope_still Exists l m i j f x n h = condition_still l m i j f x h
  scope_still Forall l m i j f x n h =
      subst (AggregatesSee (opposed_game q g) m j) (sym (owned_same (moved q 0 g.scopes) (moved q 0 g.scopes n) n (λ k. moved_eq q 0 g.scopes k n) g.aggregates))
      (aggregates_still l m i j f (aggregates_in g n) h)

  -- the added scope sees its target as the chosen one does
  added_sees : (b : Bool) (k : Kind) (x : Option Condition) (l m : List Scope) (i j n : ℕ) (qs : List Aggregate) → n ≡ suc (j + length (added (chosen_wish b k x))) →
      ((t : Target) → IsVisible g l i t → IsVisible (opposed_game q g) m n t) → ScopeSees k g l i x qs → SeesRight (opposed_game q g) m n →
      SeesRight (opposed_game q g) (added (chosen_wish b k x) ++ m) (suc j)
  added_sees false k x l m i j n qs e f h r = subst (SeesRight (opposed_game q g) m) (e ∙ plain j) r
    where
      plain : (j : ℕ) → suc (j + 0) ≡ suc j
      plain j = omega arith
  added_sees true Forall x l m i j n qs e f h r = subst (SeesRight (opposed_game q g) m) (e ∙ plain j) r
    where
      plain : (j : ℕ) → suc (j + 0) ≡ suc j
      plain j = omega arith
  added_sees true Exists None l m i j n qs e f h r = subst (SeesRight (opposed_game q g) m) (e ∙ plain j) r
    where
      plain : (j : ℕ) → suc (j + 0) ≡ suc j
      plain j = omega arith
  added_sees true Exists (Some c) l m i j n qs e f h r =
      subst (λ k. IsVisible (opposed_game q g) m k c.target × SeesRight (opposed_game q g) m k) (e ∙ one_more j) (f c.target h, r)
    where
      one_more : (j : ℕ) → suc (j + 1) ≡ suc (suc j)
      one_more j = omega arith

  still_sees : (later : List Scope) (i : ℕ) → drop i g.scopes ≡ later → SeesRight g later i → SeesRight (opposed_game q g) (with_opposing q i later) (moved q 0 g.scopes i)
  still_sees [] i e h = tt
  still_sees (s ∷ later) i e h = (
    scope_still s.kind later (added (chosen_wish (q i) s.kind s.condition) ++ with_opposing q (suc i) later) (suc i) (suc (moved q 0 g.scopes i)) (after_scope s later i e) s.condition i h.0,
    added_sees (q i) s.kind s.condition later (with_opposing q (suc i) later) (suc i) (moved q 0 g.scopes i) (moved q 0 g.scopes (suc i)) (aggregates_in g i)
        (moved_next q 0 i i g.scopes s later (omega arith) e) (still_visible later (suc i) (drop_next i g.scopes s later e)) h.0
        (still_sees later (suc i) (drop_next i g.scopes s later e) h.1),
  )

  pub sees_still : SeesRight g g.scopes 0 → SeesRight (opposed_game q g) (with_opposing q 0 g.scopes) 0
  sees_still h = subst (SeesRight (opposed_game q g) (with_opposing q 0 g.scopes)) (moved_zero q 0 g.scopes) (still_sees g.scopes 0 (drop_none g.scopes) h)
