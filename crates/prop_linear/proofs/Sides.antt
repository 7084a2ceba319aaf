-- The two sides of a sum: the least of its negative is its greatest, and both only come nearer as values go.
use Rattle.std.proofs.Common.{◌≡◌, ℕ, zero, suc, ◌<◌, Bool, true, false, List, [], ◌∷◌, length, map, get_or, refl, sym, ap, ◌∙◌, subst, arith, ℤ}
use Rattle.std.specs.Prelude.{pos, negsuc, ◌+ℤ◌, ◌-ℤ◌, ◌*ℤ◌, ◌≤ℤ◌, ◌<ℤ◌, int_lt}
use Rattle.std.specs.Int.{int_min, int_max}
use Rattle.std.proofs.Math.IntN.{*ℤ_comm, *ℤ-negsuc, neg_ℤ}
use Rattle.std.proofs.lemmas.Int.{ints, clamps}
use Rattle.std.proofs.lemmas.List.{length-map, get_or-map}
use Rattle.std.proofs.lemmas.Bool.{or_left, or_right}
use Rattle.qc_model.specs.declared.problem.Arg.{Arg}
use Rattle.qc_model.specs.declared.problem.Arg.TheVariants.{Var}
use Rattle.qc_model.specs.declared.problem.VarId.{VarId}
use Rattle.qc_model.specs.Content.{Rule}
use Rattle.qc_model.specs.Domains.{Values, Box, values_left, values_outside, box_without, least_value, greatest_value, is_none_left}
use Rattle.qc_model.specs.Left.{sum_range}
use Rattle.qc_model.specs.Ranges.{range_of, point, product}
use Rattle.qc_model.specs.Refuted.{left_to}
use Rattle.model_arguments.specs.Repeats.{has_repeat}
use Rattle.model_arguments.proofs.Kept.{ordered, is_lower}
use Rattle.prop_linear.specs.Tightening.{term_of, IsNear, AlikeOutside, least_sum, IsBounded}
use Rattle.prop_linear.specs.Sides.{greatest_sum, opposite, signed, IsPast, IsBalanced}
use Rattle.prop_linear.proofs.Alike.{alike_more}
use Rattle.prop_linear.proofs.Ends.{end_kept_low, end_kept_high}
use Rattle.prop_linear.proofs.Moves.{moved}
use Rattle.prop_linear.proofs.Spread.{low_of, high_of, rise_up, rise_down}

-- a product with the opposite factor
pub opposite_times : (a v : ℤ) → opposite a *ℤ v ≡ opposite (a *ℤ v)
opposite_times (pos zero) v = grind (arith, ints)
opposite_times (pos (suc n)) v =
    ap (λ z. z *ℤ v) (turned n)
    ∙ by (negsuc n *ℤ v) (v *ℤ pos (suc n)) (pos (suc n) *ℤ v) (*ℤ_comm (negsuc n) v ∙ *ℤ-negsuc v n) (*ℤ_comm v (pos (suc n)))
  where
    turned : (n : ℕ) → pos 0 -ℤ pos (suc n) ≡ negsuc n
    turned n = omega (arith, ints)

    by : (a b c : ℤ) → a ≡ neg_ℤ b → b ≡ c → a ≡ pos 0 -ℤ c
    by a b c h k = omega (arith, ints, h, k)
opposite_times (negsuc n) v =
    ap (λ z. z *ℤ v) (turned n)
    ∙ by (pos (suc n) *ℤ v) (v *ℤ pos (suc n)) (negsuc n *ℤ v) (*ℤ_comm (negsuc n) v ∙ *ℤ-negsuc v n) (*ℤ_comm v (pos (suc n)))
  where
    turned : (n : ℕ) → pos 0 -ℤ negsuc n ≡ pos (suc n)
    turned n = omega (arith, ints)

    by : (a b c : ℤ) → c ≡ neg_ℤ b → b ≡ a → a ≡ pos 0 -ℤ c
    by a b c h k = omega (arith, ints, h, k)

term_opposite : (a : ℤ) (d : Values) → (term_of (opposite a) d).from ≡ opposite (term_of a d).to
term_opposite a d =
    by (opposite a *ℤ least_value d) (opposite a *ℤ greatest_value d) (a *ℤ least_value d) (a *ℤ greatest_value d) (term_of (opposite a) d).from (term_of a d).to
    (opposite_times a (least_value d)) (opposite_times a (greatest_value d)) (low_of (opposite a) (least_value d) (greatest_value d)) (high_of a (least_value d) (greatest_value d))
  where
    by : (p q u v f t : ℤ) → p ≡ pos 0 -ℤ u → q ≡ pos 0 -ℤ v → f ≡ int_min p q → t ≡ int_max u v → f ≡ pos 0 -ℤ t
    by p q u v f t h k l m = omega (arith, ints, clamps, h, k, l, m)

opposite_near : (a : ℤ) (t : ℕ) (d : Values) → IsNear a t d → IsNear (opposite a) t d
opposite_near a t d n =
    by (opposite a *ℤ least_value d) (opposite a *ℤ greatest_value d) (a *ℤ least_value d) (a *ℤ greatest_value d) (term_of (opposite a) d).from (term_of (opposite a) d).to (term_of a d).from (term_of a d).to
    (opposite_times a (least_value d)) (opposite_times a (greatest_value d)) (low_of (opposite a) (least_value d) (greatest_value d)) (high_of (opposite a) (least_value d) (greatest_value d)) (low_of a (least_value d) (greatest_value d)) (high_of a (least_value d) (greatest_value d)) n
  where
    by : (p q u v f g h k : ℤ) → p ≡ pos 0 -ℤ u → q ≡ pos 0 -ℤ v → f ≡ int_min p q → g ≡ int_max p q → h ≡ int_min u v → k ≡ int_max u v → k ≤ℤ (h +ℤ pos t) → g ≤ℤ (f +ℤ pos t)
    by p q u v f g h k a b c d e i j = omega (arith, ints, clamps, a, b, c, d, e, i, j)

range_opposite : (ns : List ℤ) (ds : List Values) → (sum_range (map opposite ns) ds).from ≡ opposite (sum_range ns ds).to
range_opposite [] ds = refl
range_opposite (n ∷ ns) [] = refl
range_opposite (n ∷ ns) (d ∷ ds) =
    by (term_of (opposite n) d).from (sum_range (map opposite ns) ds).from (term_of n d).to (sum_range ns ds).to (term_opposite n d) (range_opposite ns ds)
  where
    by : (a b c d : ℤ) → a ≡ pos 0 -ℤ c → b ≡ pos 0 -ℤ d → a +ℤ b ≡ pos 0 -ℤ (c +ℤ d)
    by a b c d h k = omega (arith, ints, h, k)

pub sum_opposite : (ns : List ℤ) (xs : List Arg) (box : Box) → least_sum (signed true ns) xs box ≡ opposite (greatest_sum ns xs box)
sum_opposite ns xs box = range_opposite ns (map (left_to box) xs)

pub bounded_past : (c : Rule) (start : Box) (ns : List ℤ) (xs : List Arg) (bound : ℤ) → IsBounded c start ns xs bound → IsPast c start ns xs bound
bounded_past c start ns xs bound b = λ box f h. b.refuted box f ∙ is_lower bound (least_sum ns xs box) h

pub balanced_past : (c : Rule) (start : Box) (ns : List ℤ) (xs : List Arg) (bound : ℤ) → IsBalanced c start ns xs bound → IsPast c start ns xs bound
balanced_past c start ns xs bound b = λ box f h.
    b.refuted box f ∙ or_right (int_lt (greatest_sum ns xs box) bound) (int_lt bound (least_sum ns xs box)) (is_lower bound (least_sum ns xs box) h)

pub balanced_short : (c : Rule) (start : Box) (ns : List ℤ) (xs : List Arg) (bound : ℤ) → IsBalanced c start ns xs bound → IsPast c start (signed true ns) xs (opposite bound)
balanced_short c start ns xs bound b = λ box f h.
    b.refuted box f ∙ or_left (int_lt (greatest_sum ns xs box) bound) (int_lt bound (least_sum ns xs box)) (under (greatest_sum ns xs box) bound (least_sum (signed true ns) xs box) (sum_opposite ns xs box) h)
  where
    under : (g b l : ℤ) → l ≡ pos 0 -ℤ g → (pos 0 -ℤ b) <ℤ l → int_lt g b ≡ true
    under g b l h k = is_lower g b (omega (arith, ints, h, k))

-- a greater bound, on a box that is alike
pub past_more : (c : Rule) (start new : Box) (ns : List ℤ) (xs : List Arg) (b d : ℤ) → AlikeOutside xs start new → b ≤ℤ d → IsPast c start ns xs b → IsPast c new ns xs d
past_more c start new ns xs b d f h p = λ box g k. p box (alike_more xs start new box f g) (trans b d (least_sum ns xs box) h k)
  where
    trans : (a b c : ℤ) → a ≤ℤ b → b <ℤ c → a <ℤ c
    trans a b c h k = omega (arith, ints, h, k)

-- a term whose values become fewer
rise : (a l k h g : ℤ) → l ≤ℤ k → k ≤ℤ h → h ≤ℤ g → (product (point a) (range_of l g)).from ≤ℤ (product (point a) (range_of k h)).from
rise (pos p) l k h g u v w = rise_up p l k h g u v w
rise (negsuc n) l k h g u v w = rise_down n l k h g u v w

term_rises : (a : ℤ) (d : Values) (lo hi : ℤ) → is_none_left (values_outside lo hi d) ≡ false → (term_of a d).from ≤ℤ (term_of a (values_outside lo hi d)).from
term_rises a d lo hi n =
    let out = values_outside lo hi d in
    rise a (least_value d) (least_value out) (greatest_value out) (greatest_value d) (end_kept_low lo hi d n) (ordered out n) (end_kept_high lo hi d n)

pub sum_rises : (ns : List ℤ) (xs : List Arg) (k : ℕ) (box : Box) (x : VarId) (lo hi : ℤ) (e : Arg) → has_repeat xs ≡ false → k < length ns → k < length xs → get_or xs k e ≡ Var x → x.0 < length box →
    is_none_left (values_outside lo hi (values_left box x.0)) ≡ false → least_sum ns xs box ≤ℤ least_sum ns xs (box_without box x.0 lo hi)
sum_rises ns xs k box x lo hi e r l h q m n =
    let a = get_or ns k (pos 0) in
    let d = values_left box x.0 in
    let us = values_outside lo hi d in
    up (least_sum ns xs (box_without box x.0 lo hi)) (least_sum ns xs box) (term_of a d).from (term_of a us).from (moved ns xs k box x us (pos 0) e r l h q m) (term_rises a d lo hi n)
  where
    up : (r u f g : ℤ) → r +ℤ f ≡ u +ℤ g → f ≤ℤ g → u ≤ℤ r
    up r u f g h k = omega (arith, ints, h, k)

pub signed_length : (b : Bool) (ns : List ℤ) → length (signed b ns) ≡ length ns
signed_length false ns = refl
signed_length true ns = length-map ns opposite

-- both sides of the sum rise
pub sides_rise : (ns : List ℤ) (xs : List Arg) (k : ℕ) (box : Box) (x : VarId) (lo hi : ℤ) (e : Arg) → has_repeat xs ≡ false → k < length ns → k < length xs → get_or xs k e ≡ Var x → x.0 < length box →
    is_none_left (values_outside lo hi (values_left box x.0)) ≡ false → (b : Bool) → least_sum (signed b ns) xs box ≤ℤ least_sum (signed b ns) xs (box_without box x.0 lo hi)
sides_rise ns xs k box x lo hi e r l h q m n b =
    sum_rises (signed b ns) xs k box x lo hi e r (omega (arith, signed_length b ns, l)) h q m n

-- a near term is near on both sides
pub sided_near : (b : Bool) (ns : List ℤ) (k : ℕ) (t : ℕ) (d : Values) → k < length ns → IsNear (get_or ns k (pos 0)) t d → IsNear (get_or (signed b ns) k (pos 0)) t d
sided_near false ns k t d l n = n
sided_near true ns k t d l n =
    let N : ℤ → Type 0 = λ a. IsNear a t d in
    subst N (sym (get_or-map opposite ns k (pos 0) (pos 0) l)) (opposite_near (get_or ns k (pos 0)) t d n)
