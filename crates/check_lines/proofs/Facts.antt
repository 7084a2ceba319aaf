-- Small facts on tests, counts and scopes.
use Rattle.std.proofs.Common.{◌≡◌, ℕ, zero, suc, ◌<◌, ◌≤◌, ◌-◌, ◌+◌, ◌^◌, min, Bool, true, false, ◌&&◌, ◌||◌, List, [], ◌∷◌, length, drop, refl, ap, ◌∙◌, arith}
use Rattle.std.specs.Prelude.{nat_lt, nat_le}
use Rattle.std.proofs.lemmas.Bool.Decides.{nat_tests}
use Rattle.qc_model.specs.declared.problem.Scope.{Scope}
use Rattle.proof_tree.specs.Place.{is_goal, next_scopes}
use Rattle.check_lines.specs.Tally.{Tally}

and_false : (b : Bool) → (b && false) ≡ false
and_false true = refl
and_false false = refl

pub or_false : (b : Bool) → (b || false) ≡ b
or_false true = refl
or_false false = refl

pub or_true : (b : Bool) → (b || true) ≡ true
or_true true = refl
or_true false = refl

pub some_open : (n : ℕ) → true ≡ nat_lt 0 (n + 1)
some_open n = grind (arith, nat_tests)

pub one_later : (n : ℕ) → min (min n (2 ^ 64 - 1) + 1) (2 ^ 64 - 1) ≡ min (n + 1) (2 ^ 64 - 1)
one_later n = omega arith

-- a test that fails
pub failed : (n : Tally) (k : Bool) → k ≡ false → (n.in_place && k) ≡ false
failed n k e = ap (λ b. n.in_place && b) e ∙ and_false n.in_place

pub too_deep : (m n : ℕ) → m ≡ n → nat_lt n 1000 ≡ false → 1000 < suc m
too_deep m n e f = let h : 1000 ≤ n = least n f in omega (arith, h, e)
  where
    least : (n : ℕ) → nat_lt n 1000 ≡ false → 1000 ≤ n
    least n f = grind (arith, nat_tests)

pub goal_at : (ss : List Scope) (i : ℕ) → is_goal (drop i ss) ≡ nat_le (length ss) i
goal_at [] zero = refl
goal_at [] (suc i) = grind (arith, nat_tests)
goal_at (s ∷ ss) zero = grind (arith, nat_tests)
goal_at (s ∷ ss) (suc i) = goal_at ss i ∙ same (length ss) i
  where
    same : (m n : ℕ) → nat_le m n ≡ nat_le (suc m) (suc n)
    same m n = grind (arith, nat_tests)

pub next_drop : (ss : List Scope) (i : ℕ) → next_scopes (drop i ss) ≡ drop (suc i) ss
next_drop [] zero = refl
next_drop [] (suc i) = refl
next_drop (s ∷ ss) zero = refl
next_drop (s ∷ ss) (suc i) = next_drop ss i
