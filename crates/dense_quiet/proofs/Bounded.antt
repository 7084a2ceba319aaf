-- At-most sums keep their room where what is past it goes.
use Rattle.std.proofs.Common.{◌≡◌, ℕ, zero, suc, ◌<◌, Bool, true, false, not, List, [], ◌∷◌, length, map, set, refl, sym, ◌∙◌, subst, cond, arith, ℤ}
use Rattle.std.specs.Prelude.{pos, ◌+ℤ◌, ◌-ℤ◌, ◌*ℤ◌, ◌≤ℤ◌, ◌<ℤ◌, int_lt, slice_get, Some}
use Rattle.std.specs.Int.{int_min, int_max}
use Rattle.std.proofs.lemmas.Int.{ints, clamps}
use Rattle.std.proofs.lemmas.Option.{same_Some}
use Rattle.std.proofs.lemmas.Bool.{not_from_false}
use Rattle.qc_model.specs.declared.problem.Arg.{Arg}
use Rattle.qc_model.specs.declared.problem.VarId.{VarId}
use Rattle.qc_model.specs.Content.{Game, Rule}
use Rattle.qc_model.specs.Domains.{Values, Box, values_left, values_outside, least_value, greatest_value, has_value, is_none_left, is_within, is_sub_box, has_empty}
use Rattle.qc_model.specs.Left.{span, lefts_at}
use Rattle.qc_model.specs.Ranges.{point}
use Rattle.qc_model.specs.Refuted.{left_to}
use Rattle.qc_model.specs.Valid.{IsValid}
use Rattle.qc_model.proofs.Sound.{InRange}
use Rattle.model_arguments.specs.Asked.{is_box_of}
use Rattle.model_arguments.specs.Written.{args_at, ints_at}
use Rattle.model_arguments.proofs.Kept.{keeps, low_end, high_end, some_of, at_least, at_most, least_kept, greatest_kept}
use Rattle.model_arguments.proofs.Values.{has_least, has_greatest}
use Rattle.model_arguments.proofs.Written.{lefts_written}
use Rattle.model_table.proofs.Inside.{Inside, product_inside, span_inside}
use Rattle.model_table.proofs.Parts.{IsPart, AreParts, lefts_parts, parts_at}
use Rattle.model_table.proofs.Products.{times_in}
use Rattle.model_table.proofs.Typed.{lefts_of}
use Rattle.dense_closing.specs.Takes.{Takes}
use Rattle.dense_closing.proofs.Own.{rule_below}
use Rattle.qc_refuter.proofs.Terms.{rising_least, falling_least}
use Rattle.dense_quiet.specs.Slack.{IsNear, AreNear, SparesTaken, sum_left, most_room, RoomTells, IsBounded, IsTermOf, least_end, IsFar}
use Rattle.dense_quiet.proofs.PastRoom.{term, sum_moved, tells_smaller}
use Rattle.dense_quiet.proofs.Sums.{near_width, roomy, same_bound}

-- what goes of one term
module _ (s n : ℤ) (d : Values) (low high : ℤ) (some : is_none_left d ≡ false) (z : pos 0 ≤ℤ s) (f : IsFar s n (least_value d) (greatest_value d) low high) where
  abbrev left : Values
  left = values_outside low high d

  abbrev base : ℤ
  base = least_end n (least_value d) (greatest_value d)

  base_in : has_value d base ≡ true
  base_in = by (int_lt n (pos 0))
    where
      by : (b : Bool) → has_value d (cond b (greatest_value d) (least_value d)) ≡ true
      by true = has_greatest d some
      by false = has_least d some

  base_is : n *ℤ base ≡ (term n d).from
  base_is = by (int_lt n (pos 0)) refl
    where
      by : (b : Bool) → int_lt n (pos 0) ≡ b → n *ℤ cond b (greatest_value d) (least_value d) ≡ (term n d).from
      by true e = falling_least n d e
      by false e = rising_least n d e

  outside : is_within low high base ≡ false
  outside = by (is_within low high base) refl
    where
      never : (a : ℤ) → (a +ℤ s) <ℤ a → ⊥
      never a h = omega (arith, ints)

      by : (b : Bool) → is_within low high base ≡ b → b ≡ false
      by true e = absurd (never (n *ℤ base) (f.far base (at_least low high base e) (at_most low high base e)).1)
      by false e = refl

  base_left : has_value left base ≡ true
  base_left = keeps (λ v. not (is_within low high v)) d base (not_from_false (is_within low high base) outside) base_in

  pub far_some : is_none_left left ≡ false
  far_some = some_of left base base_left

  point_in : InRange n (point n)
  point_in = record { low = omega (arith, ints); high = omega (arith, ints) }

  above : (v : ℤ) → has_value d v ≡ true → (n *ℤ base) ≤ℤ (n *ℤ v)
  above v h = subst (λ a. a ≤ℤ (n *ℤ v)) (sym base_is) (times_in n v (point n) (span d) point_in (record { low = low_end d v h; high = high_end d v h })).low

  under : (v : ℤ) → (not (is_within low high v) ≡ true) × (has_value d v ≡ true) → (n *ℤ v) ≤ℤ ((n *ℤ base) +ℤ s)
  under v h = f.near v (low_end d v h.1) (high_end d v h.1) (out (is_within low high v) h.0)
    where
      out : (b : Bool) → not b ≡ true → b ≡ false
      out true e = cc
      out false e = refl

  pub far_near : IsNear s n left
  far_near =
      let l = least_kept (λ v. not (is_within low high v)) d far_some in
      let g = greatest_kept (λ v. not (is_within low high v)) d far_some in
      record {
        up = close (n *ℤ base) (n *ℤ greatest_value left) (n *ℤ least_value left) (under (greatest_value left) g) (above (least_value left) l.1);
        down = close (n *ℤ base) (n *ℤ least_value left) (n *ℤ greatest_value left) (under (least_value left) l) (above (greatest_value left) g.1);
      }
    where
      close : (a p q : ℤ) → p ≤ℤ (a +ℤ s) → a ≤ℤ q → p ≤ℤ (q +ℤ s)
      close a p q h k = omega (arith, ints)

  -- where there are none, it was near
  pub none_far : high <ℤ low → IsNear s n d
  none_far h = record {
    up = close (n *ℤ base) (n *ℤ greatest_value d) (n *ℤ least_value d) (all (greatest_value d) (has_greatest d some)) (above (least_value d) (has_least d some));
    down = close (n *ℤ base) (n *ℤ least_value d) (n *ℤ greatest_value d) (all (least_value d) (has_least d some)) (above (greatest_value d) (has_greatest d some));
  }
    where
      never : (v : ℤ) → not (is_within low high v) ≡ true
      never v = grind (arith, ints)

      all : (v : ℤ) → has_value d v ≡ true → (n *ℤ v) ≤ℤ ((n *ℤ base) +ℤ s)
      all v m = under v (never v, m)

      close : (a p q : ℤ) → p ≤ℤ (a +ℤ s) → a ≤ℤ q → p ≤ℤ (q +ℤ s)
      close a p q h k = omega (arith, ints)

  pub far_least : (term n left).from ≤ℤ (term n d).from
  far_least = subst (λ a. (term n left).from ≤ℤ a) base_is (times_in n base (point n) (span left) point_in (record { low = low_end left base base_left; high = high_end left base base_left })).low

-- so the sum begins where it began, and has the room that it had
pub bounded_tells : (c : Rule) (s : ℤ) (box : Box) → IsBounded c s box → RoomTells c (record { under = s; over = most_room }) box
bounded_tells c s box b = record {
  is_equal = false;
  bound = b.bound;
  pred = b.pred;
  number = b.number;
  once = b.once;
  under = b.tight;
  over = λ l. absurd (never most_room l);
}
  where
    never : (m : ℤ) → m <ℤ m → ⊥
    never m l = omega (arith, ints)

pub bounded_left : (g : Game) → IsValid g → (k : ℕ) (c : Rule) (s : ℤ) (box now : Box) (x : VarId) (n : ℤ) (us : Values) → slice_get g.constraints k ≡ Some c → is_box_of g now ≡ true → is_sub_box now box ≡ true → has_empty now ≡ false → x.0 < length box →
    now ≡ set box x.0 us → (term n us).from ≤ℤ (term n (values_left box x.0)).from → IsTermOf c n x → IsBounded c s box → IsBounded c s now
bounded_left g v k c s box now x n us there d sub full l is less at b = record {
  bound = b.bound;
  pred = b.pred;
  number = b.number;
  once = b.once;
  some = b.some;
  fits = subst (λ z. ((sum_left c z).from +ℤ s) ≤ℤ b.bound) (sym is) (still (sum_left c (set box x.0 us)).from (sum_left c box).from (term n (values_left box x.0)).from (term n us).from b.bound moved less b.fits);
  tight = λ h. subst (λ m. m ≤ℤ ((sum_left c now).from +ℤ s)) (same_bound smaller.bound b.bound (sym smaller.number ∙ b.number)) (smaller.under h);
}
  where
    moved : (sum_left c (set box x.0 us)).from +ℤ (term n (values_left box x.0)).from ≡ (sum_left c box).from +ℤ (term n us).from
    moved = (sum_moved box x us n l (ints_at c.args 0) (args_at c.args 1) at.place b.once at.factor at.item).from

    smaller : RoomTells c (record { under = s; over = most_room }) now
    smaller = tells_smaller g v k c (record { under = s; over = most_room }) now box there d sub full (bounded_tells c s box b)

    still : (a e p q m : ℤ) → a +ℤ p ≡ e +ℤ q → q ≤ℤ p → (e +ℤ s) ≤ℤ m → (a +ℤ s) ≤ℤ m
    still a e p q m h k j = omega (arith, ints)

-- terms that were near stay so in a smaller box
near_part : (s n : ℤ) (d e : Values) → IsPart d e → IsNear s n e → IsNear s n d
near_part s n d e p h = near_width s n d (term n d).from (term n d).to refl (narrow (term n e).from (term n e).to (term n d).from (term n d).to inside.low inside.high (wide (n *ℤ least_value e) (n *ℤ greatest_value e) h.up h.down))
  where
    same : Inside (point n) (point n)
    same = record { low = omega (arith, ints); high = omega (arith, ints); order = omega (arith, ints) }

    inside : Inside (term n d) (term n e)
    inside = product_inside (point n) (point n) (span d) (span e) same (span_inside d e p)

    wide : (p q : ℤ) → q ≤ℤ (p +ℤ s) → p ≤ℤ (q +ℤ s) → (int_max p (int_max q (int_max p q)) -ℤ int_min p (int_min q (int_min p q))) ≤ℤ s
    wide p q h k = omega (arith, ints, clamps)

    narrow : (f t a b : ℤ) → f ≤ℤ a → b ≤ℤ t → (t -ℤ f) ≤ℤ s → (b -ℤ a) ≤ℤ s
    narrow f t a b h k l = omega (arith, ints)

part_item : (small box : Box) (xs : List Arg) (i : ℕ) (a : Arg) → AreParts (map (left_to small) xs) (map (left_to box) xs) → slice_get xs i ≡ Some a → IsPart (left_to small a) (left_to box a)
part_item small box [] zero a p e = cc
part_item small box [] (suc i) a p e = cc
part_item small box (y ∷ xs) zero a p e = subst (λ z. IsPart (left_to small z) (left_to box z)) (same_Some y a e) p.0
part_item small box (y ∷ xs) (suc i) a p e = part_item small box xs i a p.1 e

pub near_smaller : (g : Game) → IsValid g → (k : ℕ) (c : Rule) (small box : Box) → slice_get g.constraints k ≡ Some c → is_box_of g small ≡ true → is_sub_box small box ≡ true → has_empty small ≡ false →
    (s : ℤ) (i : ℕ) (n : ℤ) (a : Arg) → slice_get (args_at c.args 1) i ≡ Some a → IsNear s n (left_to box a) → IsNear s n (left_to small a)
near_smaller g v k c small box e d sub full s i n a q h = near_part s n (left_to small a) (left_to box a) (part_item small box (args_at c.args 1) i a parts q) h
  where
    parts : AreParts (map (left_to small) (args_at c.args 1)) (map (left_to box) (args_at c.args 1))
    parts =
        subst (λ z. AreParts z (map (left_to box) (args_at c.args 1))) (lefts_written small c.args 1)
        (subst (λ z. AreParts (lefts_at (lefts_of small c.args) 1) z) (lefts_written box c.args 1) (parts_at (lefts_of small c.args) (lefts_of box c.args) 1 (lefts_parts small box sub full c.args (rule_below g v small d k c e))))

-- where all that it may take are near, it spares them
pub bounded_spares : (takes : Takes) (c : Rule) (s : ℤ) (box : Box) → IsBounded c s box → AreNear (takes c) s (ints_at c.args 0) (args_at c.args 1) box → SparesTaken takes c box
bounded_spares takes c s box b near = roomy takes c false b.bound s box b.pred b.number b.some b.once near b.fits (λ e. absurd (differ e))
  where
    differ : false ≡ true → ⊥
    differ e = cc
