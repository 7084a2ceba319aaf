-- On single values, what doesn't hold is refuted: truth values; and what holds is entailed.
use Rattle.std.proofs.Common.{◌≡◌, Bool, true, false, ◌&&◌, ◌||◌, not, List, [], ◌∷◌, map, refl, sym, ap, ap₂, ◌∙◌, subst}
use Rattle.std.specs.Prelude.{ℤ, pos, int_lt, int_le}
use Rattle.std.specs.Ordering.{int_eq}
use Rattle.std.specs.Int.{int_min, int_max}
use Rattle.std.specs.List.{list_any, list_all}
use Rattle.std.proofs.lemmas.Bool.{and_from}
use Rattle.qc_model.specs.declared.problem.Set.{Set}
use Rattle.qc_model.specs.Domains.{Values, least_value, greatest_value, misses, set_has}
use Rattle.qc_model.specs.Ranges.{Range, point, ranges_miss, smaller_range, greater_range}
use Rattle.qc_model.specs.Arguments.{members}
use Rattle.qc_model.specs.Meaning.{Meaning, equal, different, at_most, below, sum_equal, sum_different, sum_at_most, member, both, either, all_items, some_item, clause}
use Rattle.qc_model.specs.Holds.{Given, value_at, values_at, holds_as, same_truth, is_one, is_zero}
use Rattle.qc_model.specs.Left.{left_at, lefts_at, range_at, sum_at, is_only, least_range, greatest_range, are_one_value}
use Rattle.qc_model.specs.Refuted.{refuted_as}
use Rattle.qc_model.specs.Entailed.{entailed_as}
use Rattle.qc_model.proofs.Sound.{differ}
use Rattle.model_table.proofs.Typing.{number_of, IsTruth, AllTruths, IsReifiable, by_truth, by_truths}
use Rattle.model_table.proofs.Truths.{min_of_truths, max_of_truths}
use Rattle.model_table.proofs.Sums.{sum_given}
use Rattle.model_table.proofs.Singles.{alone, singles, left_single, lefts_single, range_single, at_single, members_single}
use Rattle.model_table.proofs.SingleNumbers.{results_miss, sum_single, is_its_point, equal_alone}

both_apart : (a b r : Bool) → same_truth (is_one (number_of r)) (is_one (number_of a) && is_one (number_of b)) ≡ false → ranges_miss (point (int_min (number_of a) (number_of b))) (point (number_of r)) ≡ true
both_apart true true true e = absurd (differ (sym e))
both_apart true true false e = refl
both_apart true false true e = refl
both_apart true false false e = absurd (differ (sym e))
both_apart false true true e = refl
both_apart false true false e = absurd (differ (sym e))
both_apart false false true e = refl
both_apart false false false e = absurd (differ (sym e))

either_apart : (a b r : Bool) → same_truth (is_one (number_of r)) (is_one (number_of a) || is_one (number_of b)) ≡ false → ranges_miss (point (int_max (number_of a) (number_of b))) (point (number_of r)) ≡ true
either_apart true true true e = absurd (differ (sym e))
either_apart true true false e = refl
either_apart true false true e = absurd (differ (sym e))
either_apart true false false e = refl
either_apart false true true e = absurd (differ (sym e))
either_apart false true false e = refl
either_apart false false true e = refl
either_apart false false false e = absurd (differ (sym e))

pub both_single : (vs : Given) → IsTruth (value_at vs 0) × IsTruth (value_at vs 1) × IsTruth (value_at vs 2) → holds_as both vs ≡ false → refuted_as both (singles vs) ≡ true
both_single vs t e =
    subst (λ (r : Range). ranges_miss r (range_at (singles vs) 2) ≡ true) (sym (ap₂ smaller_range (range_single vs 0) (range_single vs 1)))
    (subst (λ (r : Range). ranges_miss (point (int_min (value_at vs 0) (value_at vs 1))) r ≡ true) (sym (range_single vs 2))
    (by_truths (λ (x : ℤ) (y : ℤ) (z : ℤ). same_truth (is_one z) (is_one x && is_one y) ≡ false → ranges_miss (point (int_min x y)) (point z) ≡ true) both_apart (value_at vs 0) (value_at vs 1) (value_at vs 2) t.0 t.1 t.2 e))

pub either_single : (vs : Given) → IsTruth (value_at vs 0) × IsTruth (value_at vs 1) × IsTruth (value_at vs 2) → holds_as either vs ≡ false → refuted_as either (singles vs) ≡ true
either_single vs t e =
    subst (λ (r : Range). ranges_miss r (range_at (singles vs) 2) ≡ true) (sym (ap₂ greater_range (range_single vs 0) (range_single vs 1)))
    (subst (λ (r : Range). ranges_miss (point (int_max (value_at vs 0) (value_at vs 1))) r ≡ true) (sym (range_single vs 2))
    (by_truths (λ (x : ℤ) (y : ℤ) (z : ℤ). same_truth (is_one z) (is_one x || is_one y) ≡ false → ranges_miss (point (int_max x y)) (point z) ≡ true) either_apart (value_at vs 0) (value_at vs 1) (value_at vs 2) t.0 t.1 t.2 e))

all_point : (vs : List ℤ) → AllTruths vs → least_range (point (pos 1)) (map alone vs) ≡ point (number_of (list_all is_one vs))
all_point [] t = refl
all_point (v ∷ vs) t =
    ap (smaller_range (point v)) (all_point vs t.1) ∙ ap point (by_truth (λ (x : ℤ). int_min x (number_of (list_all is_one vs)) ≡ number_of (is_one x && list_all is_one vs)) (λ b. min_of_truths b (list_all is_one vs)) v t.0)

some_point : (vs : List ℤ) → AllTruths vs → greatest_range (point (pos 0)) (map alone vs) ≡ point (number_of (list_any is_one vs))
some_point [] t = refl
some_point (v ∷ vs) t =
    ap (greater_range (point v)) (some_point vs t.1) ∙ ap point (by_truth (λ (x : ℤ). int_max x (number_of (list_any is_one vs)) ≡ number_of (is_one x || list_any is_one vs)) (λ b. max_of_truths b (list_any is_one vs)) v t.0)

truth_differs : (r : ℤ) (b : Bool) → IsTruth r → same_truth (is_one r) b ≡ false → int_eq (number_of b) r ≡ false
truth_differs r b t e = by_truth (λ (x : ℤ). same_truth (is_one x) b ≡ false → int_eq (number_of b) x ≡ false) (λ c. cases c b) r t e
  where
    cases : (c b : Bool) → same_truth (is_one (number_of c)) b ≡ false → int_eq (number_of b) (number_of c) ≡ false
    cases true true e = absurd (differ (sym e))
    cases true false e = refl
    cases false true e = refl
    cases false false e = absurd (differ (sym e))

pub all_items_single : (vs : Given) → AllTruths (values_at vs 0) × IsTruth (value_at vs 1) → holds_as all_items vs ≡ false → refuted_as all_items (singles vs) ≡ true
all_items_single vs t e =
    results_miss (number_of (list_all is_one (values_at vs 0))) (value_at vs 1) (least_range (point (pos 1)) (lefts_at (singles vs) 0)) (range_at (singles vs) 1)
    (ap (least_range (point (pos 1))) (lefts_single vs 0) ∙ all_point (values_at vs 0) t.0) (range_single vs 1)
    (truth_differs (value_at vs 1) (list_all is_one (values_at vs 0)) t.1 e)

pub some_item_single : (vs : Given) → AllTruths (values_at vs 0) × IsTruth (value_at vs 1) → holds_as some_item vs ≡ false → refuted_as some_item (singles vs) ≡ true
some_item_single vs t e =
    results_miss (number_of (list_any is_one (values_at vs 0))) (value_at vs 1) (greatest_range (point (pos 0)) (lefts_at (singles vs) 0)) (range_at (singles vs) 1)
    (ap (greatest_range (point (pos 0))) (lefts_single vs 0) ∙ some_point (values_at vs 0) t.0) (range_single vs 1)
    (truth_differs (value_at vs 1) (list_any is_one (values_at vs 0)) t.1 e)

-- of truth values, those that aren't n are the other
only_others : (n : ℤ) (p : ℤ → Bool) → ((b : Bool) → p (number_of b) ≡ false → is_only n (alone (number_of b)) ≡ true) → (vs : List ℤ) → AllTruths vs → list_any p vs ≡ false → list_all (is_only n) (map alone vs) ≡ true
only_others n p f [] t e = refl
only_others n p f (v ∷ vs) t e =
    let q = both_not (p v) (list_any p vs) e in
    and_from (is_only n (alone v)) (list_all (is_only n) (map alone vs))
    (by_truth (λ (x : ℤ). p x ≡ false → is_only n (alone x) ≡ true) f v t.0 q.0) (only_others n p f vs t.1 q.1)
  where
    both_not : (a b : Bool) → (a || b) ≡ false → (a ≡ false) × (b ≡ false)
    both_not true b e = absurd (differ (sym e))
    both_not false b e = (refl, e)

pub clause_single : (vs : Given) → AllTruths (values_at vs 0) × AllTruths (values_at vs 1) → holds_as clause vs ≡ false → refuted_as clause (singles vs) ≡ true
clause_single vs t e =
    subst (λ (ds : List Values). (list_all (is_only (pos 0)) ds && list_all (is_only (pos 1)) (lefts_at (singles vs) 1)) ≡ true) (sym (lefts_single vs 0))
    (subst (λ (ds : List Values). (list_all (is_only (pos 0)) (map alone (values_at vs 0)) && list_all (is_only (pos 1)) ds) ≡ true) (sym (lefts_single vs 1))
    (by (list_any is_one (values_at vs 0)) refl (list_any is_zero (values_at vs 1)) refl e))
  where
    not_one : (b : Bool) → is_one (number_of b) ≡ false → is_only (pos 0) (alone (number_of b)) ≡ true
    not_one true e = absurd (differ (sym e))
    not_one false e = refl

    not_zero : (b : Bool) → is_zero (number_of b) ≡ false → is_only (pos 1) (alone (number_of b)) ≡ true
    not_zero true e = refl
    not_zero false e = absurd (differ (sym e))

    by : (a : Bool) → list_any is_one (values_at vs 0) ≡ a → (b : Bool) → list_any is_zero (values_at vs 1) ≡ b → (a || b) ≡ false → (list_all (is_only (pos 0)) (map alone (values_at vs 0)) && list_all (is_only (pos 1)) (map alone (values_at vs 1))) ≡ true
    by true p b q n = absurd (differ (sym n))
    by false p true q n = absurd (differ (sym n))
    by false p false q n =
        and_from (list_all (is_only (pos 0)) (map alone (values_at vs 0))) (list_all (is_only (pos 1)) (map alone (values_at vs 1)))
        (only_others (pos 0) is_one not_one (values_at vs 0) t.0 p) (only_others (pos 1) is_zero not_zero (values_at vs 1) t.1 q)

-- what holds is entailed
some_only : (n : ℤ) (vs : List ℤ) → list_any (is_only n) (map alone vs) ≡ list_any (λ v. int_eq v n) vs
some_only n [] = refl
some_only n (v ∷ vs) = ap (λ b. int_eq v n || b) (some_only n vs)

is_true_of_not : (b : Bool) → not b ≡ true → b ≡ false
is_true_of_not true e = absurd (differ e)
is_true_of_not false e = refl

pub entailed_single : (m : Meaning) (vs : Given) → IsReifiable m → holds_as m vs ≡ true → entailed_as m (singles vs) ≡ true
entailed_single equal vs i e = at_single vs (λ a b c. are_one_value a b ≡ true) e
entailed_single different vs i e =
    at_single vs (λ a b c. misses a b ≡ true) (equal_alone (value_at vs 0) (value_at vs 1) (is_true_of_not (int_eq (value_at vs 0) (value_at vs 1)) e))
entailed_single at_most vs i e = at_single vs (λ a b c. int_le (greatest_value a) (least_value b) ≡ true) e
entailed_single below vs i e = at_single vs (λ a b c. int_lt (greatest_value a) (least_value b) ≡ true) e
entailed_single sum_equal vs i e = is_its_point (sum_given vs) (value_at vs 2) (sum_at (singles vs)) (left_at (singles vs) 2) (sum_single vs) (left_single vs 2) e
entailed_single sum_different vs i e =
    results_miss (sum_given vs) (value_at vs 2) (sum_at (singles vs)) (range_at (singles vs) 2) (sum_single vs) (range_single vs 2) (is_true_of_not (int_eq (sum_given vs) (value_at vs 2)) e)
entailed_single sum_at_most vs i e =
    subst (λ (r : Range). int_le r.to (least_value (left_at (singles vs) 2)) ≡ true) (sym (sum_single vs))
    (subst (λ (d : Values). int_le (sum_given vs) (least_value d) ≡ true) (sym (left_single vs 2)) e)
entailed_single member vs i e =
    subst (λ (s : Set). list_all (set_has s) (left_at (singles vs) 0) ≡ true) (sym (members_single vs 1))
    (at_single vs (λ a b c. list_all (set_has (members vs 1)) a ≡ true) (and_from (set_has (members vs 1) (value_at vs 0)) true e refl))
entailed_single clause vs i e =
    ap₂ ◌||◌ (ap (list_any (is_only (pos 1))) (lefts_single vs 0) ∙ some_only (pos 1) (values_at vs 0)) (ap (list_any (is_only (pos 0))) (lefts_single vs 1) ∙ some_only (pos 0) (values_at vs 1)) ∙ e
entailed_single m vs i e = absurd i
