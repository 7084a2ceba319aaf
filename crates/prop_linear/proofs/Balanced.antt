-- A sum that is to be one number, and lies within s above its least and t below its greatest.
use Rattle.std.proofs.Common.{◌≡◌, ℕ, ◌<◌, true, false, not, List, length, get_or, map, [], ◌∷◌, refl, sym, ap, ◌∙◌, subst, arith, ℤ}
use Rattle.std.specs.Prelude.{pos, ◌+ℤ◌, ◌-ℤ◌, ◌≤ℤ◌, int_lt}
use Rattle.std.proofs.lemmas.Int.{ints}
use Rattle.std.proofs.lemmas.Bool.{or_left, or_right, or_from, not_from_false, and_from}
use Rattle.qc_model.specs.declared.problem.Arg.{Arg}
use Rattle.qc_model.specs.declared.problem.Arg.TheVariants.{Var, Num}
use Rattle.qc_model.specs.declared.problem.VarId.{VarId}
use Rattle.qc_model.specs.Closed.{refutes_at, keeps_ends}
use Rattle.qc_model.specs.Content.{Rule}
use Rattle.qc_model.specs.Domains.{Box, values_left, box_at, least_value, greatest_value}
use Rattle.qc_model.specs.Left.{sum_range}
use Rattle.qc_model.specs.Ranges.{Range}
use Rattle.qc_model.specs.Refuted.{left_to, refuted_by}
use Rattle.model_arguments.proofs.Items.{all_by}
use Rattle.model_arguments.proofs.Kept.{not_lower}
use Rattle.prop_base.specs.Closed.{keeps_arg}
use Rattle.model_arguments.specs.Repeats.{has_repeat}
use Rattle.prop_linear.specs.Tightening.{IsNear, AllNear, AlikeOutside, least_sum}
use Rattle.prop_linear.specs.Sides.{greatest_sum, signed, IsBalanced, IsPast}
use Rattle.prop_linear.proofs.Alike.{alike_same, alike_at}
use Rattle.prop_linear.proofs.Moves.{value_near, times_low, times_high, near_at}
use Rattle.prop_linear.proofs.Sides.{sum_opposite, signed_length, balanced_past, balanced_short}

balanced_value : (c : Rule) (ns : List ℤ) (xs : List Arg) (bound : ℤ) (s t : ℕ) (box : Box) (x : VarId) (v : ℤ) → IsBalanced c box ns xs bound → AlikeOutside xs box (box_at box x.0 v) → bound ≡ least_sum ns xs box +ℤ pos s → greatest_sum ns xs box ≡ bound +ℤ pos t →
    least_sum ns xs (box_at box x.0 v) ≤ℤ (least_sum ns xs box +ℤ pos s) → least_sum (signed true ns) xs (box_at box x.0 v) ≤ℤ (least_sum (signed true ns) xs box +ℤ pos t) → not (refutes_at c box x.0 v) ≡ true
balanced_value c ns xs bound s t box x v b a e f m n =
    let at = box_at box x.0 v in
    not_from_false (refutes_at c box x.0 v)
    (b.refuted at a
    ∙ or_from (int_lt (greatest_sum ns xs at) bound) (int_lt bound (least_sum ns xs at))
    (not_lower (greatest_sum ns xs at) bound (high (greatest_sum ns xs at) (greatest_sum ns xs box) (least_sum (signed true ns) xs at) (least_sum (signed true ns) xs box) (sum_opposite ns xs at) (sum_opposite ns xs box) f n))
    (not_lower bound (least_sum ns xs at) (low (least_sum ns xs at) (least_sum ns xs box) e m)))
  where
    low : (a u : ℤ) → bound ≡ u +ℤ pos s → a ≤ℤ (u +ℤ pos s) → a ≤ℤ bound
    low a u h k = omega (arith, ints, h, k)

    high : (g u l m : ℤ) → l ≡ pos 0 -ℤ g → m ≡ pos 0 -ℤ u → u ≡ bound +ℤ pos t → l ≤ℤ (m +ℤ pos t) → bound ≤ℤ g
    high g u l m h k i j = omega (arith, ints, h, k, i, j)

balanced_place : (c : Rule) (ns : List ℤ) (xs : List Arg) (bound : ℤ) (s t : ℕ) (box : Box) (k : ℕ) (a : Arg) → IsBalanced c box ns xs bound → has_repeat xs ≡ false → length ns ≡ length xs → k < length xs →
    get_or xs k (Num (pos 0)) ≡ a → ((x : VarId) → a ≡ Var x → x.0 < length box) → bound ≡ least_sum ns xs box +ℤ pos s → greatest_sum ns xs box ≡ bound +ℤ pos t →
    IsNear (get_or ns k (pos 0)) s (left_to box a) → IsNear (get_or (signed true ns) k (pos 0)) t (left_to box a) → keeps_arg c box a ≡ true
balanced_place c ns xs bound s t box k (Num n) b r l h q f e g near far = refl
balanced_place c ns xs bound s t box k (Var x) b r l h q f e g near far =
    let d = values_left box x.0 in
    let ms = signed true ns in
    let n = get_or ns k (pos 0) in
    let m = get_or ms k (pos 0) in
    let w = signed_length true ns ∙ l in
    and_from (not (refutes_at c box x.0 (least_value d))) (not (refutes_at c box x.0 (greatest_value d)))
    (balanced_value c ns xs bound s t box x (least_value d) b (alike_at xs box k x (least_value d ∷ []) (Num (pos 0)) h q) e g (value_near ns xs s box k x (least_value d) r l h q (f x refl) near (times_low n d)) (value_near ms xs t box k x (least_value d) r w h q (f x refl) far (times_low m d)))
    (balanced_value c ns xs bound s t box x (greatest_value d) b (alike_at xs box k x (greatest_value d ∷ []) (Num (pos 0)) h q) e g (value_near ns xs s box k x (greatest_value d) r l h q (f x refl) near (times_high n d)) (value_near ms xs t box k x (greatest_value d) r w h q (f x refl) far (times_high m d)))

-- places near on both sides keep their ends
pub balanced_keeps : (c : Rule) (ns : List ℤ) (xs : List Arg) (bound : ℤ) (s t : ℕ) (box : Box) → IsBalanced c box ns xs bound → has_repeat xs ≡ false → length ns ≡ length xs →
    ((k : ℕ) (x : VarId) → k < length xs → get_or xs k (Num (pos 0)) ≡ Var x → x.0 < length box) → bound ≡ least_sum ns xs box +ℤ pos s → greatest_sum ns xs box ≡ bound +ℤ pos t →
    AllNear s ns xs box → AllNear t (signed true ns) xs box → keeps_ends box c ≡ true
balanced_keeps c ns xs bound s t box b r l f e g near far =
    b.own box (alike_same xs box)
    (b.refuted box (alike_same xs box)
    ∙ or_from (int_lt (greatest_sum ns xs box) bound) (int_lt bound (least_sum ns xs box))
    (not_lower (greatest_sum ns xs box) bound (above (greatest_sum ns xs box) g))
    (not_lower bound (least_sum ns xs box) (within (least_sum ns xs box) e)))
    (all_by (keeps_arg c box) xs (Num (pos 0))
    (λ k h. balanced_place c ns xs bound s t box k (get_or xs k (Num (pos 0))) b r l h refl (λ x q. f k x h q) e g (near_at s ns xs k box (pos 0) (Num (pos 0)) (omega (arith, l, h)) h near) (near_at t (signed true ns) xs k box (pos 0) (Num (pos 0)) (omega (arith, signed_length true ns, l, h)) h far)))
  where
    within : (z : ℤ) → bound ≡ z +ℤ pos s → z ≤ℤ bound
    within z h = omega (arith, ints, h)

    above : (z : ℤ) → z ≡ bound +ℤ pos t → bound ≤ℤ z
    above z h = omega (arith, ints, h)

pub balanced_over : (c : Rule) (ns : List ℤ) (xs : List Arg) (bound : ℤ) (box : Box) (r : Range) → IsBalanced c box ns xs bound → r ≡ sum_range ns (map (left_to box) xs) → int_lt bound r.from ≡ true → refuted_by c box ≡ true
balanced_over c ns xs bound box r b e h =
    b.refuted box (alike_same xs box) ∙ or_right (int_lt (greatest_sum ns xs box) bound) (int_lt bound (least_sum ns xs box)) (ap (λ (z : Range). int_lt bound z.from) (sym e) ∙ h)

pub balanced_under : (c : Rule) (ns : List ℤ) (xs : List Arg) (bound : ℤ) (box : Box) (r : Range) → IsBalanced c box ns xs bound → r ≡ sum_range ns (map (left_to box) xs) → int_lt r.to bound ≡ true → refuted_by c box ≡ true
balanced_under c ns xs bound box r b e h =
    b.refuted box (alike_same xs box) ∙ or_left (int_lt (greatest_sum ns xs box) bound) (int_lt bound (least_sum ns xs box)) (ap (λ (z : Range). int_lt z.to bound) (sym e) ∙ h)

pub over_past : (c : Rule) (ns : List ℤ) (xs : List Arg) (bound : ℤ) (s : ℕ) (box : Box) → IsBalanced c box ns xs bound → bound ≡ least_sum ns xs box +ℤ pos s → IsPast c box ns xs (least_sum ns xs box +ℤ pos s)
over_past c ns xs bound s box b e = subst (IsPast c box ns xs) e (balanced_past c box ns xs bound b)

pub under_past : (c : Rule) (ns : List ℤ) (xs : List Arg) (bound : ℤ) (t : ℕ) (box : Box) → IsBalanced c box ns xs bound → greatest_sum ns xs box ≡ bound +ℤ pos t → IsPast c box (signed true ns) xs (least_sum (signed true ns) xs box +ℤ pos t)
under_past c ns xs bound t box b e =
    subst (IsPast c box (signed true ns) xs) (turned (greatest_sum ns xs box) (least_sum (signed true ns) xs box) e (sum_opposite ns xs box)) (balanced_short c box ns xs bound b)
  where
    turned : (g l : ℤ) → g ≡ bound +ℤ pos t → l ≡ pos 0 -ℤ g → pos 0 -ℤ bound ≡ l +ℤ pos t
    turned g l h k = omega (arith, ints, h, k)
