-- On single values, what doesn't hold is refuted: the meanings of two and three numbers, and sums.
use Rattle.std.proofs.Common.{◌≡◌, zero, suc, Bool, true, false, ◌&&◌, ◌||◌, not, cond, List, [], ◌∷◌, ◌++◌, map, flat_map, refl, sym, ap, ap₂, ◌∙◌, subst, arith}
use Rattle.std.specs.Prelude.{ℤ, pos, negsuc, ◌+ℤ◌, ◌-ℤ◌, ◌*ℤ◌, int_lt, int_le, int_div, int_rem}
use Rattle.std.specs.Ordering.{int_eq}
use Rattle.std.specs.Int.{int_min, int_max}
use Rattle.std.specs.List.{list_any}
use Rattle.std.proofs.lemmas.Int.{ints, clamps}
use Rattle.std.proofs.lemmas.Bool.Decides.{Decides-int_eq}
use Rattle.std.proofs.lemmas.Bool.{or_left, or_right, and_from, true_from_ne_false, not_from_false}
use Rattle.qc_model.specs.declared.problem.Set.{Set}
use Rattle.qc_model.specs.Domains.{Values, least_value, greatest_value, misses, set_has}
use Rattle.qc_model.specs.Ranges.{Range, range_of, range_of_list, point, is_point, ranges_miss, range_sum, product, absolute, absolute_range, smaller_range, greater_range, quotient_range, remainder_range, greatest_remainder}
use Rattle.qc_model.specs.Arguments.{numbers, members}
use Rattle.qc_model.specs.Meaning.{equal, different, at_most, below, sum_equal, sum_different, sum_at_most, plus, times, absolute_value, smaller, greater, quotient, remainder, member, exactly_one}
use Rattle.qc_model.specs.Holds.{Given, value_at, values_at, sum_of_products, holds_as, is_zero, is_one, same_truth}
use Rattle.qc_model.specs.Left.{left_at, range_at, sum_range, sum_at, is_zero_range, are_one_value}
use Rattle.qc_model.specs.Refuted.{refuted_as}
use Rattle.qc_model.proofs.Sound.{differ}
use Rattle.model_table.proofs.Typing.{is_wrong_xor}
use Rattle.model_table.proofs.Sums.{sum_given}
use Rattle.model_table.proofs.Quotients.{divisor_ends, quotients_by}
use Rattle.model_table.proofs.Singles.{alone, singles, left_single, lefts_single, range_single, at_single, numbers_single, members_single}

pub or_none : (b : Bool) → (b || false) ≡ b
or_none true = refl
or_none false = refl

of_not : (b : Bool) → not b ≡ false → b ≡ true
of_not true e = refl
of_not false e = absurd (differ (sym e))

-- numbers that differ are ranges that miss each other
points_miss : (x c : ℤ) → int_eq x c ≡ false → ranges_miss (point x) (point c) ≡ true
points_miss x c e = true_from_ne_false (ranges_miss (point x) (point c)) (λ n. by (int_lt x c) refl (int_lt c x) refl n)
  where
    by : (a : Bool) → int_lt x c ≡ a → (b : Bool) → int_lt c x ≡ b → (a || b) ≡ false → ⊥
    by true p b q n = differ (sym n)
    by false p true q n = differ (sym n)
    by false p false q n = differ (sym e ∙ (Decides-int_eq x c).1 (omega (arith, ints)))

pub results_miss : (x c : ℤ) (r s : Range) → r ≡ point x → s ≡ point c → int_eq x c ≡ false → ranges_miss r s ≡ true
results_miss x c r s e f n = subst (λ t. ranges_miss t s ≡ true) (sym e) (subst (λ t. ranges_miss (point x) t ≡ true) (sym f) (points_miss x c n))

pub equal_alone : (a b : ℤ) → int_eq a b ≡ false → misses (alone a) (alone b) ≡ true
equal_alone a b e = ap not (or_none (int_eq a b || false) ∙ or_none (int_eq a b) ∙ e)

pub equal_single : (vs : Given) → holds_as equal vs ≡ false → refuted_as equal (singles vs) ≡ true
equal_single vs e = at_single vs (λ a b c. misses a b ≡ true) (equal_alone (value_at vs 0) (value_at vs 1) e)

pub different_single : (vs : Given) → holds_as different vs ≡ false → refuted_as different (singles vs) ≡ true
different_single vs e = at_single vs (λ a b c. are_one_value a b ≡ true) (of_not (int_eq (value_at vs 0) (value_at vs 1)) e)

pub at_most_single : (vs : Given) → holds_as at_most vs ≡ false → refuted_as at_most (singles vs) ≡ true
at_most_single vs e =
    at_single vs (λ a b c. int_lt (greatest_value b) (least_value a) ≡ true)
    (true_from_ne_false (int_lt (value_at vs 1) (value_at vs 0)) (λ n. omega (arith, ints)))

pub below_single : (vs : Given) → holds_as below vs ≡ false → refuted_as below (singles vs) ≡ true
below_single vs e =
    at_single vs (λ a b c. int_le (greatest_value b) (least_value a) ≡ true)
    (true_from_ne_false (int_le (value_at vs 1) (value_at vs 0)) (λ n. omega (arith, ints)))

-- the range of one number, however often
min_same : (p : ℤ) → int_min p p ≡ p
min_same p = omega (arith, ints, clamps)

max_same : (p : ℤ) → int_max p p ≡ p
max_same p = omega (arith, ints, clamps)

hull_pair : (p : ℤ) (r : Range) → r ≡ point p → range_of (int_min p r.from) (int_max p r.to) ≡ point p
hull_pair p r e = subst (λ t. range_of (int_min p t.from) (int_max p t.to) ≡ point p) (sym e) (ap₂ range_of (min_same p) (max_same p))

hull_same : (p : ℤ) → range_of_list (p ∷ p ∷ p ∷ p ∷ []) ≡ point p
hull_same p = hull_pair p (range_of_list (p ∷ p ∷ p ∷ [])) (hull_pair p (range_of_list (p ∷ p ∷ [])) (hull_pair p (point p) refl))

sum_point : (ns vs : List ℤ) → sum_range ns (map alone vs) ≡ point (sum_of_products ns vs)
sum_point [] vs = refl
sum_point (n ∷ ns) [] = refl
sum_point (n ∷ ns) (v ∷ vs) = ap₂ range_sum (hull_same (n *ℤ v)) (sum_point ns vs)

pub sum_single : (vs : Given) → sum_at (singles vs) ≡ point (sum_given vs)
sum_single vs = ap₂ sum_range (numbers_single vs 0) (lefts_single vs 1) ∙ sum_point (numbers vs 0) (values_at vs 1)

pub sum_equal_single : (vs : Given) → holds_as sum_equal vs ≡ false → refuted_as sum_equal (singles vs) ≡ true
sum_equal_single vs e = results_miss (sum_given vs) (value_at vs 2) (sum_at (singles vs)) (range_at (singles vs) 2) (sum_single vs) (range_single vs 2) e

pub is_its_point : (s c : ℤ) (r : Range) (d : Values) → r ≡ point s → d ≡ alone c → int_eq s c ≡ true → is_point (least_value d) r ≡ true
is_its_point s c r d e f h = subst (λ t. is_point (least_value d) t ≡ true) (sym e) (subst (λ t. is_point (least_value t) (point s) ≡ true) (sym f) (and_from (int_eq s c) (int_eq s c) h h))

pub sum_different_single : (vs : Given) → holds_as sum_different vs ≡ false → refuted_as sum_different (singles vs) ≡ true
sum_different_single vs e =
    is_its_point (sum_given vs) (value_at vs 2) (sum_at (singles vs)) (left_at (singles vs) 2) (sum_single vs) (left_single vs 2) (of_not (int_eq (sum_given vs) (value_at vs 2)) e)

pub sum_at_most_single : (vs : Given) → holds_as sum_at_most vs ≡ false → refuted_as sum_at_most (singles vs) ≡ true
sum_at_most_single vs e =
    subst (λ r. int_lt (greatest_value (left_at (singles vs) 2)) r.from ≡ true) (sym (sum_single vs))
    (subst (λ d. int_lt (greatest_value d) (sum_given vs) ≡ true) (sym (left_single vs 2))
    (true_from_ne_false (int_lt (value_at vs 2) (sum_given vs)) (λ n. omega (arith, ints))))

-- the range of an operation on single numbers is its result
module _ (op : ℤ → ℤ → ℤ) (range : Range → Range → Range) (exact : (a b : ℤ) → range (point a) (point b) ≡ point (op a b)) where
  result_single : (vs : Given) → int_eq (op (value_at vs 0) (value_at vs 1)) (value_at vs 2) ≡ false → ranges_miss (range (range_at (singles vs) 0) (range_at (singles vs) 1)) (range_at (singles vs) 2) ≡ true
  result_single vs e =
      results_miss (op (value_at vs 0) (value_at vs 1)) (value_at vs 2) (range (range_at (singles vs) 0) (range_at (singles vs) 1)) (range_at (singles vs) 2)
      (ap₂ range (range_single vs 0) (range_single vs 1) ∙ exact (value_at vs 0) (value_at vs 1)) (range_single vs 2) e

pub plus_single : (vs : Given) → holds_as plus vs ≡ false → refuted_as plus (singles vs) ≡ true
plus_single vs e = result_single ◌+ℤ◌ range_sum (λ a b. refl) vs e

pub times_single : (vs : Given) → holds_as times vs ≡ false → refuted_as times (singles vs) ≡ true
times_single vs e = result_single ◌*ℤ◌ product (λ a b. hull_same (a *ℤ b)) vs e

pub smaller_single : (vs : Given) → holds_as smaller vs ≡ false → refuted_as smaller (singles vs) ≡ true
smaller_single vs e = result_single int_min smaller_range (λ a b. refl) vs e

pub greater_single : (vs : Given) → holds_as greater vs ≡ false → refuted_as greater (singles vs) ≡ true
greater_single vs e = result_single int_max greater_range (λ a b. refl) vs e

absolute_point : (a : ℤ) → absolute_range (point a) ≡ point (absolute a)
absolute_point a = by (int_le (pos 0) a) refl (int_le a (pos 0)) refl
  where
    by : (b : Bool) → int_le (pos 0) a ≡ b → (c : Bool) → int_le a (pos 0) ≡ c → cond b (point a) (cond c (range_of (absolute a) (absolute a)) (range_of (pos 0) (int_max (absolute a) a))) ≡ point (absolute a)
    by true e c f = ap point (omega (arith, ints))
    by false e true f = refl
    by false e false f = absurd (omega (arith, ints))

pub absolute_value_single : (vs : Given) → holds_as absolute_value vs ≡ false → refuted_as absolute_value (singles vs) ≡ true
absolute_value_single vs e =
    results_miss (absolute (value_at vs 0)) (value_at vs 1) (absolute_range (range_at (singles vs) 0)) (range_at (singles vs) 1)
    (ap absolute_range (range_single vs 0) ∙ absolute_point (value_at vs 0)) (range_single vs 1) e

-- the ends of a divisor other than zero
ends_alone : (b : ℤ) → is_zero b ≡ false → divisor_ends (point b) ≡ b ∷ b ∷ []
ends_alone (pos zero) e = absurd (differ (sym e))
ends_alone (pos (suc n)) e = by (int_lt (pos (suc n)) (pos 0)) refl (int_lt (pos 0) (pos (suc n))) refl
  where
    by : (s : Bool) → int_lt (pos (suc n)) (pos 0) ≡ s → (t : Bool) → int_lt (pos 0) (pos (suc n)) ≡ t → cond s (pos (suc n) ∷ int_min (pos (suc n)) (negsuc 0) ∷ []) [] ++ cond t (int_max (pos (suc n)) (pos 1) ∷ pos (suc n) ∷ []) [] ≡ pos (suc n) ∷ pos (suc n) ∷ []
    by true f t g = absurd (omega (arith, ints))
    by false f false g = absurd (omega (arith, ints))
    by false f true g = ap (λ (x : ℤ). x ∷ pos (suc n) ∷ []) (omega (arith, ints, clamps))
ends_alone (negsuc n) e = by (int_lt (negsuc n) (pos 0)) refl (int_lt (pos 0) (negsuc n)) refl
  where
    by : (s : Bool) → int_lt (negsuc n) (pos 0) ≡ s → (t : Bool) → int_lt (pos 0) (negsuc n) ≡ t → cond s (negsuc n ∷ int_min (negsuc n) (negsuc 0) ∷ []) [] ++ cond t (int_max (negsuc n) (pos 1) ∷ negsuc n ∷ []) [] ≡ negsuc n ∷ negsuc n ∷ []
    by false f t g = absurd (omega (arith, ints))
    by true f true g = absurd (omega (arith, ints))
    by true f false g = ap (λ (x : ℤ). negsuc n ∷ x ∷ []) (omega (arith, ints, clamps))

quotient_point : (a b : ℤ) → is_zero b ≡ false → quotient_range (point a) (point b) ≡ point (int_div a b)
quotient_point a b e = ap (λ ds. range_of_list (flat_map (quotients_by (point a)) ds)) (ends_alone b e) ∙ hull_same (int_div a b)

remainder_point : (a b : ℤ) → remainder_range (point a) (point b) ≡ point (int_rem a b)
remainder_point a b =
    ap (λ (t : Bool). cond t (point (int_rem a b)) wide) (and_from (int_eq a a) (int_eq b b) ((Decides-int_eq a a).1 refl) ((Decides-int_eq b b).1 refl))
  where
    wide : Range
    wide = range_of (cond (int_le (pos 0) a) (pos 0) (int_max a (pos 0 -ℤ greatest_remainder (point b)))) (cond (int_le a (pos 0)) (pos 0) (int_min a (greatest_remainder (point b))))

module _ (op : ℤ → ℤ → ℤ) (range : Range → Range → Range) (exact : (a b : ℤ) → is_zero b ≡ false → range (point a) (point b) ≡ point (op a b)) where
  divided_single : (vs : Given) → (not (is_zero (value_at vs 1)) && int_eq (op (value_at vs 0) (value_at vs 1)) (value_at vs 2)) ≡ false → (is_zero_range (range_at (singles vs) 1) || ranges_miss (range (range_at (singles vs) 0) (range_at (singles vs) 1)) (range_at (singles vs) 2)) ≡ true
  divided_single vs e = by (is_zero (value_at vs 1)) refl e
    where
      by : (z : Bool) → is_zero (value_at vs 1) ≡ z → (not z && int_eq (op (value_at vs 0) (value_at vs 1)) (value_at vs 2)) ≡ false → (is_zero_range (range_at (singles vs) 1) || ranges_miss (range (range_at (singles vs) 0) (range_at (singles vs) 1)) (range_at (singles vs) 2)) ≡ true
      by true q n =
          or_left (is_zero_range (range_at (singles vs) 1)) (ranges_miss (range (range_at (singles vs) 0) (range_at (singles vs) 1)) (range_at (singles vs) 2))
          (subst (λ r. is_zero_range r ≡ true) (sym (range_single vs 1)) (and_from (is_zero (value_at vs 1)) (is_zero (value_at vs 1)) q q))
      by false q n =
          or_right (is_zero_range (range_at (singles vs) 1)) (ranges_miss (range (range_at (singles vs) 0) (range_at (singles vs) 1)) (range_at (singles vs) 2))
          (results_miss (op (value_at vs 0) (value_at vs 1)) (value_at vs 2) (range (range_at (singles vs) 0) (range_at (singles vs) 1)) (range_at (singles vs) 2)
          (ap₂ range (range_single vs 0) (range_single vs 1) ∙ exact (value_at vs 0) (value_at vs 1) q) (range_single vs 2) n)

pub quotient_single : (vs : Given) → holds_as quotient vs ≡ false → refuted_as quotient (singles vs) ≡ true
quotient_single vs e = divided_single int_div quotient_range quotient_point vs e

pub remainder_single : (vs : Given) → holds_as remainder vs ≡ false → refuted_as remainder (singles vs) ≡ true
remainder_single vs e = divided_single int_rem remainder_range (λ a b n. remainder_point a b) vs e

pub member_single : (vs : Given) → holds_as member vs ≡ false → refuted_as member (singles vs) ≡ true
member_single vs e =
    subst (λ (s : Set). not (list_any (set_has s) (left_at (singles vs) 0)) ≡ true) (sym (members_single vs 1))
    (at_single vs (λ a b c. not (list_any (set_has (members vs 1)) a) ≡ true) (ap not (or_none (set_has (members vs 1) (value_at vs 0)) ∙ e)))

pub exactly_one_single : (vs : Given) → holds_as exactly_one vs ≡ false → refuted_as exactly_one (singles vs) ≡ true
exactly_one_single vs e =
    at_single vs
    (λ a b c. is_wrong_xor a b c ≡ true)
    (not_from_false (same_truth (is_one (value_at vs 2)) (not (int_eq (value_at vs 0) (value_at vs 1)))) e)
