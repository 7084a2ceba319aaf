-- The best of values with one more.
use Rattle.std.proofs.Common.{◌≡◌, cond, List, [], ◌∷◌, ◌++◌, Option, Some, None, slice_get, refl, sym, ap, ◌∙◌, arith, ℤ}
use Rattle.std.specs.Prelude.{int_lt}
use Rattle.std.specs.Int.{int_min, int_max}
use Rattle.std.proofs.lemmas.Int.{ints}
use Rattle.std.proofs.lemmas.Bool.Decides.{nat_tests}
use Rattle.qc_model.specs.declared.problem.Sense.{Sense}
use Rattle.qc_model.specs.declared.problem.Sense.TheVariants.{Min, Max}
use Rattle.qc_model.specs.declared.problem.Condition.{Condition}
use Rattle.qc_model.specs.Optimal.{is_better}
use Rattle.qc_model.specs.ExistsVerdict.{best_number_from, best_number}
use Rattle.dense_nest.specs.Tallies.{best_held}

best_more : (s : Sense) (n v : ℤ) (ns : List ℤ) → best_number_from s n (ns ++ v ∷ []) ≡ cond (is_better s v (best_number_from s n ns)) v (best_number_from s n ns)
best_more s n v [] = refl
best_more s n v (m ∷ ns) = best_more s (cond (is_better s m n) m n) v ns

same : (a b : ℤ) → ◌≡◌ {A = Option ℤ} (Some a) (Some b) → a ≡ b
same a b e = cc

pub better : (list : List Condition) (held : Option ℤ) (best value : ℤ) (first : Condition) (values : List ℤ) → held ≡ Some best → Some first ≡ slice_get list 0 → held ≡ best_held list values →
    Some (cond (is_better first.sense value best) value best) ≡ best_held list (values ++ value ∷ [])
better [] held best value first values e f h = cc
better (c ∷ d) held best value first [] e f h = absurd (none (sym e ∙ h))
  where
    none : ◌≡◌ {A = Option ℤ} (Some best) None → ⊥
    none q = cc
better (c ∷ d) held best value first (v ∷ values) e f h = by c.sense (ap (λ (x : Condition). x.sense) (heads f)) (same best (best_number c.sense (v ∷ values)) (sym e ∙ h))
  where
    heads : ◌≡◌ {A = Option Condition} (Some first) (Some c) → first ≡ c
    heads q = cc

    by : (s : Sense) → first.sense ≡ s → best ≡ best_number s (v ∷ values) → ◌≡◌ {A = Option ℤ} (Some (cond (is_better first.sense value best) value best)) (Some (best_number s (v ∷ values ++ value ∷ [])))
    by s p q =
        ap (λ t. Some (cond (is_better t value best) value best)) p
        ∙ (ap (λ b. Some (cond (is_better s value b) value b)) q ∙ ap Some (sym (best_more s v value values)))

max_is : (best value : ℤ) → int_max best value ≡ cond (int_lt best value) value best
max_is best value = grind (arith, ints, nat_tests)

pub better_min : (s : Sense) (best value : ℤ) → s ≡ Min → int_min best value ≡ cond (is_better s value best) value best
better_min s best value e = ap (λ t. cond (is_better t value best) value best) (sym e)

pub better_max : (s : Sense) (best value : ℤ) → s ≡ Max → int_max best value ≡ cond (is_better s value best) value best
better_max s best value e = max_is best value ∙ ap (λ t. cond (is_better t value best) value best) (sym e)
