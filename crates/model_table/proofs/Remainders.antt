-- Remainders of members lie within the stated range; and the first law for quotient and remainder.
use Rattle.std.proofs.Common.{◌≡◌, ◌⊎◌, inl, inr, ℕ, zero, suc, ◌%◌, ◌≤◌, ◌<◌, Bool, true, false, ◌&&◌, ◌||◌, not, cond, refl, sym, ap, ◌∙◌, subst, arith, mod-lt}
use Rattle.std.proofs.Math.Nat.{mod-le}
use Rattle.std.specs.Prelude.{ℤ, pos, negsuc, neg_ℤ, ◌≤ℤ◌, ◌<ℤ◌, ◌-ℤ◌, int_le, int_div, int_rem, nat_abs}
use Rattle.std.specs.Ordering.{int_eq}
use Rattle.std.specs.Int.{int_min, int_max}
use Rattle.std.proofs.lemmas.Int.{ints, clamps}
use Rattle.std.proofs.lemmas.Bool.Decides.{Decides-int_eq}
use Rattle.std.proofs.lemmas.Bool.{and_parts}
use Rattle.qc_model.specs.Ranges.{Range, range_of, point, is_single_range, greatest_remainder, ranges_miss, quotient_range, remainder_range}
use Rattle.qc_model.specs.Meaning.{quotient, remainder}
use Rattle.qc_model.specs.Holds.{Given, value_at, holds_as, is_zero}
use Rattle.qc_model.specs.Left.{Lefts, range_at, is_zero_range}
use Rattle.qc_model.specs.Refuted.{refuted_as}
use Rattle.qc_model.proofs.Visible.{Fits}
use Rattle.qc_model.proofs.Sound.{InRange, at_range, apart, or_false, not_true}
use Rattle.model_table.proofs.Sums.{same_number, in_point}
use Rattle.model_table.proofs.Quotients.{quotient_in}

-- the remainder is smaller than the divisor, whose absolute value is d, and not beyond the dividend, whose sign it has
pub record IsRemainder (u : ℤ) (d : ℕ) (r : ℤ) : Type 0 where
  pub above : (pos 0 -ℤ pos d) <ℤ r
  pub below : r <ℤ pos d
  pub of_positive : pos 0 ≤ℤ u → (pos 0 ≤ℤ r) × (r ≤ℤ u)
  pub of_negative : u ≤ℤ pos 0 → (u ≤ℤ r) × (r ≤ℤ pos 0)

abs_positive : (v : ℤ) → (v ≡ pos 0 → ⊥) → 0 < nat_abs v
abs_positive (pos zero) n = absurd (n refl)
abs_positive (pos (suc v)) n = omega arith
abs_positive (negsuc v) n = omega arith

of_positive_dividend : (a r d : ℕ) → r < d → r ≤ a → IsRemainder (pos a) d (pos r)
of_positive_dividend a r d h k = record {
  above = omega (arith, ints);
  below = omega (arith, ints);
  of_positive = λ m. (omega (arith, ints), omega (arith, ints));
  of_negative = λ m. (omega (arith, ints), omega (arith, ints));
}

of_negative_dividend : (a r d : ℕ) → r < d → r ≤ suc a → IsRemainder (negsuc a) d (neg_ℤ (pos r))
of_negative_dividend a r d h k = record {
  above = omega (arith, ints);
  below = omega (arith, ints);
  of_positive = λ m. absurd (omega (arith, ints));
  of_negative = λ m. (omega (arith, ints), omega (arith, ints));
}

remainder_is : (u v : ℤ) → (v ≡ pos 0 → ⊥) → IsRemainder u (nat_abs v) (int_rem u v)
remainder_is (pos a) v n = of_positive_dividend a (a % nat_abs v) (nat_abs v) (mod-lt a (abs_positive v n)) (mod-le a (nat_abs v))
remainder_is (negsuc a) v n = of_negative_dividend a (suc a % nat_abs v) (nat_abs v) (mod-lt (suc a) (abs_positive v n)) (mod-le (suc a) (nat_abs v))

-- a member's absolute value is at most that of an end
abs_within : (v : ℤ) (b : Range) → InRange v b → (pos (nat_abs v) -ℤ pos 1) ≤ℤ greatest_remainder b
abs_within v b h = omega (arith, ints, clamps, h.low, h.high)

low_in : (u v r : ℤ) (a b : Range) → IsRemainder u (nat_abs v) r → InRange u a → InRange v b → cond (int_le (pos 0) a.from) (pos 0) (int_max a.from (pos 0 -ℤ greatest_remainder b)) ≤ℤ r
low_in u v r a b i h k = by (int_le (pos 0) a.from) refl (greatest_remainder b) (abs_within v b k) (at_zero u)
  where
    at_zero : (u : ℤ) → (pos 0 ≤ℤ u) ⊎ (u ≤ℤ pos 0)
    at_zero (pos n) = inl (omega (arith, ints))
    at_zero (negsuc n) = inr (omega (arith, ints))

    by : (t : Bool) → int_le (pos 0) a.from ≡ t → (m : ℤ) → (pos (nat_abs v) -ℤ pos 1) ≤ℤ m → (pos 0 ≤ℤ u) ⊎ (u ≤ℤ pos 0) → cond t (pos 0) (int_max a.from (pos 0 -ℤ m)) ≤ℤ r
    by true e m w s = (i.of_positive (omega (arith, ints, h.low))).0
    by false e m w (inl s) = let p = i.of_positive s in omega (arith, ints, clamps, i.above, p.0)
    by false e m w (inr s) = let p = i.of_negative s in omega (arith, ints, clamps, i.above, p.0, h.low)

high_in : (u v r : ℤ) (a b : Range) → IsRemainder u (nat_abs v) r → InRange u a → InRange v b → r ≤ℤ cond (int_le a.to (pos 0)) (pos 0) (int_min a.to (greatest_remainder b))
high_in u v r a b i h k = by (int_le a.to (pos 0)) refl (greatest_remainder b) (abs_within v b k) (at_zero u)
  where
    at_zero : (u : ℤ) → (pos 0 ≤ℤ u) ⊎ (u ≤ℤ pos 0)
    at_zero (pos n) = inl (omega (arith, ints))
    at_zero (negsuc n) = inr (omega (arith, ints))

    by : (t : Bool) → int_le a.to (pos 0) ≡ t → (m : ℤ) → (pos (nat_abs v) -ℤ pos 1) ≤ℤ m → (pos 0 ≤ℤ u) ⊎ (u ≤ℤ pos 0) → r ≤ℤ cond t (pos 0) (int_min a.to m)
    by true e m w s = (i.of_negative (omega (arith, ints, h.high))).1
    by false e m w (inl s) = let p = i.of_positive s in omega (arith, ints, clamps, i.below, p.1, h.high)
    by false e m w (inr s) = let p = i.of_negative s in omega (arith, ints, clamps, i.below, p.1)

-- the member of a range of one number
single_is : (u : ℤ) (a : Range) → is_single_range a ≡ true → InRange u a → u ≡ a.from
single_is u a s h = let e = same_number a.from a.to s in omega (arith, ints, h.low, h.high)

-- the range of remainders by at most m, where dividend and divisor aren't and_parts one number
abbrev pub wide_ends : Range → ℤ → Range
wide_ends a m =
    range_of (cond (int_le (pos 0) a.from) (pos 0) (int_max a.from (pos 0 -ℤ m))) (cond (int_le a.to (pos 0)) (pos 0) (int_min a.to m))

pub remainder_in : (u v : ℤ) (a b : Range) → (v ≡ pos 0 → ⊥) → InRange u a → InRange v b → InRange (int_rem u v) (remainder_range a b)
remainder_in u v a b n h k = by (is_single_range a && is_single_range b) refl
  where
    by : (t : Bool) → (is_single_range a && is_single_range b) ≡ t → InRange (int_rem u v) (cond t (point (int_rem a.from b.from)) (wide_ends a (greatest_remainder b)))
    by true e =
        let p = and_parts (is_single_range a) (is_single_range b) e in
        subst (λ (m : ℤ). InRange m (point (int_rem a.from b.from))) (ap (λ (x : ℤ). int_rem x b.from) (sym (single_is u a p.0 h)) ∙ ap (λ (x : ℤ). int_rem u x) (sym (single_is v b p.1 k))) (in_point (int_rem a.from b.from))
    by false e = record { low = low_in u v (int_rem u v) a b (remainder_is u v n) h k; high = high_in u v (int_rem u v) a b (remainder_is u v n) h k }

-- a divisor other than zero, and its range
not_zero : (v : ℤ) → not (is_zero v) ≡ true → v ≡ pos 0 → ⊥
not_zero v n e = not_true (is_zero v) n ((Decides-int_eq v (pos 0)).1 e)

zero_range : (v : ℤ) (b : Range) → is_zero_range b ≡ true → InRange v b → v ≡ pos 0
zero_range v b z h =
    let p = and_parts (int_eq b.from (pos 0)) (int_eq b.to (pos 0)) z in
    let e = same_number b.from (pos 0) p.0 in
    let f = same_number b.to (pos 0) p.1 in
    omega (arith, ints, h.low, h.high)

-- a result by a divisor other than zero, whose range misses what is left to it
module _ (op : ℤ → ℤ → ℤ) (range : Range → Range → Range) (op_in : (u v : ℤ) (a b : Range) → (v ≡ pos 0 → ⊥) → InRange u a → InRange v b → InRange (op u v) (range a b)) where
  divided_apart : (vs : Given) (ds : Lefts) → Fits vs ds → (is_zero_range (range_at ds 1) || ranges_miss (range (range_at ds 0) (range_at ds 1)) (range_at ds 2)) ≡ true → (not (is_zero (value_at vs 1)) && int_eq (op (value_at vs 0) (value_at vs 1)) (value_at vs 2)) ≡ true → ⊥
  divided_apart vs ds f r h =
      let p = and_parts (not (is_zero (value_at vs 1))) (int_eq (op (value_at vs 0) (value_at vs 1)) (value_at vs 2)) h in
      let n = not_zero (value_at vs 1) p.0 in
      or_false (is_zero_range (range_at ds 1)) (ranges_miss (range (range_at ds 0) (range_at ds 1)) (range_at ds 2))
      (λ z. n (zero_range (value_at vs 1) (range_at ds 1) z (at_range vs ds 1 f)))
      (λ m. apart (value_at vs 2) (range (range_at ds 0) (range_at ds 1)) (range_at ds 2) m
      (subst (λ (x : ℤ). InRange x (range (range_at ds 0) (range_at ds 1))) (same_number (op (value_at vs 0) (value_at vs 1)) (value_at vs 2) p.1)
      (op_in (value_at vs 0) (value_at vs 1) (range_at ds 0) (range_at ds 1) n (at_range vs ds 0 f) (at_range vs ds 1 f)))
      (at_range vs ds 2 f)) r

pub quotient_sound : (vs : Given) (ds : Lefts) → Fits vs ds → refuted_as quotient ds ≡ true → holds_as quotient vs ≡ true → ⊥
quotient_sound vs ds f r h = divided_apart int_div quotient_range quotient_in vs ds f r h

pub remainder_sound : (vs : Given) (ds : Lefts) → Fits vs ds → refuted_as remainder ds ≡ true → holds_as remainder vs ≡ true → ⊥
remainder_sound vs ds f r h = divided_apart int_rem remainder_range remainder_in vs ds f r h
