-- A remainder has its dividend's sign, and is no farther from 0 than the dividend and nearer than the divisor.
use Rattle.std.proofs.Common.{◌≡◌, ◌≢◌, ◌∙◌, zero, suc, ◌<◌, ℤ, pos, negsuc, ◌≤ℤ◌, ◌-ℤ◌, neg_ℤ, int_rem, int_le, Bool, true, false, cond, refl, sym, subst, arith, unsigned_abs}
use Rattle.std.proofs.Math.Nat.{mod-le}
use Rattle.std.specs.Int.{int_min, int_max}
use Rattle.std.proofs.lemmas.Int.{ints, clamps, by_lt_z, rem_below}
use Rattle.fd_interval.specs.declared.span.Span.{Span}
use Rattle.fd_interval.specs.Spans.{IsBetween, IsIn}
use Rattle.fd_interval.specs.Remainders.{IsRemainder, IsZero, farthest_remainder, lower_end, upper_end}

pub above : (x y : ℤ) → pos 0 ≤ℤ x → IsBetween (pos 0) x (int_rem x y)
above (pos a) y h = record { from = omega (arith, ints); to = omega (arith, ints, mod-le a (unsigned_abs y)) }
above (negsuc a) y h = absurd h.le

pub below : (x y : ℤ) → x ≤ℤ pos 0 → IsBetween x (pos 0) (int_rem x y)
below (pos zero) y h = record { from = omega (arith, ints); to = omega (arith, ints, mod-le 0 (unsigned_abs y)) }
below (pos (suc a)) y h = absurd (omega (arith, ints))
below (negsuc a) y h = let k = mod-le (suc a) (unsigned_abs y) in record { from = omega (arith, ints, k); to = omega (arith, ints, k) }

size : (y : ℤ) → y ≢ pos 0 → 0 < unsigned_abs y
size y z = omega (arith, ints)

near : (b : Span) (x y : ℤ) → IsIn b y → y ≢ pos 0 → IsBetween (pos 0 -ℤ farthest_remainder b) (farthest_remainder b) (int_rem x y)
near b x y p z = let k = rem_below x y (size y z) in record { from = omega (arith, ints, clamps, k); to = omega (arith, ints, clamps, k) }

lowest_holds : (a b : Span) (x y : ℤ) → IsIn a x → IsIn b y → y ≢ pos 0 → lower_end a.lo (farthest_remainder b) ≤ℤ int_rem x y
lowest_holds a b x y p q z = by (int_le (pos 0) a.lo) refl
  where
    far : IsBetween (pos 0 -ℤ farthest_remainder b) (farthest_remainder b) (int_rem x y)
    far = near b x y q z

    by : (t : Bool) → int_le (pos 0) a.lo ≡ t → cond t (pos 0) (int_max a.lo (pos 0 -ℤ farthest_remainder b)) ≤ℤ int_rem x y
    by true e = (above x y (omega (arith, ints))).from
    by false e = by_lt_z x (pos 0)
        (λ h. let k = below x y (omega (arith, ints)) in omega (arith, ints, clamps, k.from, far.from))
        (λ h. let k = above x y h in omega (arith, ints, clamps, k.from, far.from))

highest_holds : (a b : Span) (x y : ℤ) → IsIn a x → IsIn b y → y ≢ pos 0 → int_rem x y ≤ℤ upper_end a.hi (farthest_remainder b)
highest_holds a b x y p q z = by (int_le a.hi (pos 0)) refl
  where
    far : IsBetween (pos 0 -ℤ farthest_remainder b) (farthest_remainder b) (int_rem x y)
    far = near b x y q z

    by : (t : Bool) → int_le a.hi (pos 0) ≡ t → int_rem x y ≤ℤ cond t (pos 0) (int_min a.hi (farthest_remainder b))
    by true e = (below x y (omega (arith, ints))).to
    by false e = by_lt_z x (pos 0)
        (λ h. let k = below x y (omega (arith, ints)) in omega (arith, ints, clamps, k.to, far.to))
        (λ h. let k = above x y h in omega (arith, ints, clamps, k.to, far.to))

pub size_holds : (a b s : Span) → s.lo ≡ lower_end a.lo (farthest_remainder b) → s.hi ≡ upper_end a.hi (farthest_remainder b) → (n : ℤ) → IsRemainder a b n → IsIn s n
size_holds a b s e f n r = subst (IsIn s) (sym r.is) record {
  from = subst (λ l. l ≤ℤ int_rem r.dividend r.divisor) (sym e) (lowest_holds a b r.dividend r.divisor r.dividend_in r.divisor_in r.nonzero);
  to = subst (λ l. int_rem r.dividend r.divisor ≤ℤ l) (sym f) (highest_holds a b r.dividend r.divisor r.dividend_in r.divisor_in r.nonzero);
}

pub only_holds : (a b s : Span) → a.lo ≡ a.hi → b.lo ≡ b.hi → s.lo ≡ int_rem a.lo b.lo → s.hi ≡ int_rem a.lo b.lo → (n : ℤ) → IsRemainder a b n → IsIn s n
only_holds a b s p q e f n r =
    let x : a.lo ≡ r.dividend = omega (arith, ints, r.dividend_in) in
    let y : b.lo ≡ r.divisor = omega (arith, ints, r.divisor_in) in
    let is : int_rem a.lo b.lo ≡ n = (λ i. int_rem (x i) (y i)) ∙ sym r.is in
    record { from = omega (arith, ints, e, is); to = omega (arith, ints, f, is) }

-- the code's comparisons give the ends
pub far_above : (b : Span) → ¬ IsZero b → pos 0 ≤ℤ farthest_remainder b
far_above b z = by_lt_z b.lo (pos 0) (λ h. omega (arith, ints, clamps)) (λ h. by_lt_z (pos 0) b.hi (λ k. omega (arith, ints, clamps)) (λ k. absurd (z (omega (arith, ints, b.ordered), omega (arith, ints, b.ordered)))))

pub lower_is : (lo far n : ℤ) → pos 0 ≤ℤ far → n ≡ int_max (int_min lo (pos 0)) (neg_ℤ far) → n ≡ lower_end lo far
lower_is lo far n h e = by (int_le (pos 0) lo) refl
  where
    by : (t : Bool) → int_le (pos 0) lo ≡ t → n ≡ cond t (pos 0) (int_max lo (pos 0 -ℤ far))
    by true k = omega (arith, ints, clamps)
    by false k = omega (arith, ints, clamps)

pub upper_is : (hi far n : ℤ) → pos 0 ≤ℤ far → n ≡ int_min (int_max hi (pos 0)) far → n ≡ upper_end hi far
upper_is hi far n h e = by (int_le hi (pos 0)) refl
  where
    by : (t : Bool) → int_le hi (pos 0) ≡ t → n ≡ cond t (pos 0) (int_min hi far)
    by true k = omega (arith, ints, clamps)
    by false k = omega (arith, ints, clamps)
