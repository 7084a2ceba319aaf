-- The mark of a bound is no larger than a variable's values.
use Rattle.std.proofs.Common.{◌≡◌, refl, subst, ℕ, ◌≤◌, Bool, true, false, Option, Some, None, [], ◌∷◌, cond, arith}
use Rattle.std.specs.Prelude.{ℤ, unsigned_abs, int_lt}
use Rattle.std.specs.List.{list_all}
use Rattle.std.proofs.lemmas.Bool.Decides.{nat_tests}
use Rattle.qc_model.specs.declared.problem.Sense.{Sense}
use Rattle.qc_model.specs.declared.problem.Sense.TheVariants.{Min, Max}
use Rattle.qc_model.specs.Content.{Game}
use Rattle.qc_model.specs.Domains.{Box, Values, values_left, values_within, is_within, least_from, greatest_from}
use Rattle.qc_model.specs.Valid.{IsValid, is_number}
use Rattle.qc_model.proofs.Conjunctions.{first, second}
use Rattle.model_arguments.specs.Asked.{is_box_of}
use Rattle.model_arguments.proofs.Boxes.{left_small}
use Rattle.box_laws.proofs.Filters.{all_filter}
use Rattle.proof_tree.specs.Place.{Tracked}
use Rattle.proof_tree.specs.Steps.{best_value}
use Rattle.dense_tree.specs.Steps.{bound_marks}

least_number : (n : ℤ) (vs : Values) → is_number n ≡ true → list_all is_number vs ≡ true → is_number (least_from n vs) ≡ true
least_number n [] e h = e
least_number n (v ∷ vs) e h =
    let one = first (is_number v) (list_all is_number vs) h in
    let more = second (is_number v) (list_all is_number vs) h in
    by (int_lt v n) (least_number v vs one more) (least_number n vs e more)
  where
    by : (b : Bool) → is_number (least_from v vs) ≡ true → is_number (least_from n vs) ≡ true → is_number (least_from (cond b v n) vs) ≡ true
    by true p q = p
    by false p q = q

greatest_number : (n : ℤ) (vs : Values) → is_number n ≡ true → list_all is_number vs ≡ true → is_number (greatest_from n vs) ≡ true
greatest_number n [] e h = e
greatest_number n (v ∷ vs) e h =
    let one = first (is_number v) (list_all is_number vs) h in
    let more = second (is_number v) (list_all is_number vs) h in
    by (int_lt n v) (greatest_number v vs one more) (greatest_number n vs e more)
  where
    by : (b : Bool) → is_number (greatest_from v vs) ≡ true → is_number (greatest_from n vs) ≡ true → is_number (greatest_from (cond b v n) vs) ≡ true
    by true p q = p
    by false p q = q

best_is : (s : Sense) (vs : Values) → list_all is_number vs ≡ true → is_number (best_value s vs) ≡ true
best_is Min [] h = refl
best_is Min (v ∷ vs) h = least_number v vs (first (is_number v) (list_all is_number vs) h) (second (is_number v) (list_all is_number vs) h)
best_is Max [] h = refl
best_is Max (v ∷ vs) h = greatest_number v vs (first (is_number v) (list_all is_number vs) h) (second (is_number v) (list_all is_number vs) h)

number_size : (m : ℤ) → is_number m ≡ true → unsigned_abs m ≤ 1000000000
number_size m h = grind (arith, nat_tests)

pub mark_small : (g : Game) (box : Box) (x : ℕ) (lo hi best : ℤ) (o : Option Tracked) → IsValid g → is_box_of g box ≡ true → bound_marks o (values_within lo hi (values_left box x)) ≡ best ∷ [] → unsigned_abs best ≤ 1000000000
mark_small g box x lo hi best None v d e = cc
mark_small g box x lo hi best (Some t) v d e =
    let vs = values_within lo hi (values_left box x) in
    let numbers : list_all is_number vs ≡ true = all_filter is_number (is_within lo hi) (values_left box x) (left_small g box x v.domains d) in
    let same : best_value t.sense vs ≡ best = cc in
    number_size best (subst (λ z. is_number z ≡ true) same (best_is t.sense vs numbers))
