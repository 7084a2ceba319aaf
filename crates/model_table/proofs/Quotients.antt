-- Quotients and remainders of members lie within the stated ranges.
use Rattle.std.proofs.Common.{◌≡◌, inl, inr, ℕ, zero, suc, ◌/◌, ◌≤◌, Bool, true, cond, List, [], ◌∷◌, ◌++◌, flat_map, refl, sym, ap, subst, arith, div-mul-le_self, mul-le-mul_left, le_trans}
use Rattle.std.specs.Prelude.{ℤ, pos, negsuc, ◌≤ℤ◌, ◌<ℤ◌, int_lt, int_div}
use Rattle.std.specs.Int.{int_min, int_max}
use Rattle.std.proofs.lemmas.Int.{ints, clamps}
use Rattle.std.proofs.lemmas.Nat.{le-div}
use Rattle.std.proofs.lemmas.Bool.{true_from_ne_false}
use Rattle.qc_model.specs.Lists.{Among}
use Rattle.qc_model.specs.Ranges.{Range, negative_ends, positive_ends, quotient_range}
use Rattle.qc_model.proofs.Sound.{InRange}
use Rattle.qc_model.proofs.Moves.{among_left, among_right, among_flat_map}
use Rattle.model_table.proofs.Products.{Between, between_in, in_hull}

-- more by the same is more; by more it is less
nat_up : (a b d : ℕ) → a ≤ b → a / suc d ≤ b / suc d
nat_up a b d h = le-div (a / suc d) b (suc d) (omega arith) (le_trans (div-mul-le_self a (suc d)) h)

nat_down : (a d e : ℕ) → d ≤ e → a / suc e ≤ a / suc d
nat_down a d e h =
    le-div (a / suc e) a (suc d) (omega arith) (le_trans (mul-le-mul_left (a / suc e) (omega arith)) (div-mul-le_self a (suc e)))

-- by a divisor above 0, and below
up_by_positive : (x y : ℤ) (d : ℕ) → x ≤ℤ y → int_div x (pos (suc d)) ≤ℤ int_div y (pos (suc d))
up_by_positive (pos a) (pos b) d h = let m = nat_up a b d (omega (arith, ints)) in omega (arith, ints)
up_by_positive (pos a) (negsuc b) d h = absurd (omega (arith, ints))
up_by_positive (negsuc a) (pos b) d h = omega (arith, ints)
up_by_positive (negsuc a) (negsuc b) d h = let m = nat_up (suc b) (suc a) d (omega (arith, ints)) in omega (arith, ints)

down_by_negative : (x y : ℤ) (d : ℕ) → x ≤ℤ y → int_div y (negsuc d) ≤ℤ int_div x (negsuc d)
down_by_negative (pos a) (pos b) d h = let m = nat_up a b d (omega (arith, ints)) in omega (arith, ints)
down_by_negative (pos a) (negsuc b) d h = absurd (omega (arith, ints))
down_by_negative (negsuc a) (pos b) d h = omega (arith, ints)
down_by_negative (negsuc a) (negsuc b) d h = let m = nat_up (suc b) (suc a) d (omega (arith, ints)) in omega (arith, ints)

-- between the quotients of the ends
between_dividends : (u v : ℤ) (a : Range) → (v ≡ pos 0 → ⊥) → InRange u a → Between (int_div u v) (int_div a.from v) (int_div a.to v)
between_dividends u (pos zero) a n h = absurd (n refl)
between_dividends u (pos (suc d)) a n h = inl (up_by_positive a.from u d h.low, up_by_positive u a.to d h.high)
between_dividends u (negsuc d) a n h = inr (down_by_negative u a.to d h.high, down_by_negative a.from u d h.low)

between_positive : (x : ℤ) (d e v : ℕ) → d ≤ v → v ≤ e → Between (int_div x (pos (suc v))) (int_div x (pos (suc d))) (int_div x (pos (suc e)))
between_positive (pos a) d e v h k = let m = nat_down a d v h in let n = nat_down a v e k in inr (omega (arith, ints), omega (arith, ints))
between_positive (negsuc a) d e v h k = let m = nat_down (suc a) d v h in let n = nat_down (suc a) v e k in inl (omega (arith, ints), omega (arith, ints))

between_negative : (x : ℤ) (d e v : ℕ) → d ≤ v → v ≤ e → Between (int_div x (negsuc v)) (int_div x (negsuc e)) (int_div x (negsuc d))
between_negative (pos a) d e v h k = let m = nat_down a d v h in let n = nat_down a v e k in inr (omega (arith, ints), omega (arith, ints))
between_negative (negsuc a) d e v h k = let m = nat_down (suc a) d v h in let n = nat_down (suc a) v e k in inl (omega (arith, ints), omega (arith, ints))

between_divisors : (x p q v : ℤ) → pos 0 <ℤ p → p ≤ℤ v → v ≤ℤ q → Between (int_div x v) (int_div x p) (int_div x q)
between_divisors x (pos (suc d)) (pos (suc e)) (pos (suc v)) z h k = between_positive x d e v (omega (arith, ints)) (omega (arith, ints))
between_divisors x p q v z h k = absurd (omega (arith, ints))

between_below_zero : (x p q v : ℤ) → q <ℤ pos 0 → p ≤ℤ v → v ≤ℤ q → Between (int_div x v) (int_div x p) (int_div x q)
between_below_zero x (negsuc e) (negsuc d) (negsuc v) z h k = between_negative x d e v (omega (arith, ints)) (omega (arith, ints))
between_below_zero x p q v z h k = absurd (omega (arith, ints))

positive_ends_are : (b : Range) → int_lt (pos 0) b.to ≡ true → positive_ends b ≡ int_max b.from (pos 1) ∷ b.to ∷ []
positive_ends_are b e = ap (λ (t : Bool). cond t (int_max b.from (pos 1) ∷ b.to ∷ []) []) e

negative_ends_are : (b : Range) → int_lt b.from (pos 0) ≡ true → negative_ends b ≡ b.from ∷ int_min b.to (negsuc 0) ∷ []
negative_ends_are b e = ap (λ (t : Bool). cond t (b.from ∷ int_min b.to (negsuc 0) ∷ []) []) e

abbrev pub divisor_ends : Range → List ℤ
divisor_ends b = negative_ends b ++ positive_ends b

abbrev pub quotients_by : Range → ℤ → List ℤ
quotients_by a d = int_div a.from d ∷ int_div a.to d ∷ []

-- the quotients of both ends by an end of the divisor
from_in : (a b : Range) (d : ℤ) → Among d (divisor_ends b) → InRange (int_div a.from d) (quotient_range a b)
from_in a b d h = in_hull (int_div a.from d) (flat_map (quotients_by a) (divisor_ends b)) (among_flat_map (quotients_by a) d (int_div a.from d) (divisor_ends b) h (inl refl))

to_in : (a b : Range) (d : ℤ) → Among d (divisor_ends b) → InRange (int_div a.to d) (quotient_range a b)
to_in a b d h = in_hull (int_div a.to d) (flat_map (quotients_by a) (divisor_ends b)) (among_flat_map (quotients_by a) d (int_div a.to d) (divisor_ends b) h (inr (inl refl)))

-- the divisor lies between two ends of its own sign
record IsEnclosed (v : ℤ) (b : Range) : Type 0 where
  low : ℤ
  high : ℤ
  low_end : Among low (divisor_ends b)
  high_end : Among high (divisor_ends b)
  between : (x : ℤ) → Between (int_div x v) (int_div x low) (int_div x high)

enclosed : (v : ℤ) (b : Range) → (v ≡ pos 0 → ⊥) → InRange v b → IsEnclosed v b
enclosed (pos zero) b n h = absurd (n refl)
enclosed (pos (suc v)) b n h =
    let e : int_lt (pos 0) b.to ≡ true = true_from_ne_false (int_lt (pos 0) b.to) (λ z. omega (arith, ints, h.high)) in
    let at = λ (x : ℤ) (m : Among x (int_max b.from (pos 1) ∷ b.to ∷ [])). among_right x (negative_ends b) (positive_ends b) (subst (λ (xs : List ℤ). Among x xs) (sym (positive_ends_are b e)) m) in
    record {
      low = int_max b.from (pos 1);
      high = b.to;
      low_end = at (int_max b.from (pos 1)) (inl refl);
      high_end = at b.to (inr (inl refl));
      between = λ x. between_divisors x (int_max b.from (pos 1)) b.to (pos (suc v)) (omega (arith, ints, clamps)) (omega (arith, ints, clamps, h.low)) h.high;
    }
enclosed (negsuc v) b n h =
    let e : int_lt b.from (pos 0) ≡ true = true_from_ne_false (int_lt b.from (pos 0)) (λ z. omega (arith, ints, h.low)) in
    let at = λ (x : ℤ) (m : Among x (b.from ∷ int_min b.to (negsuc 0) ∷ [])). among_left x (negative_ends b) (positive_ends b) (subst (λ (xs : List ℤ). Among x xs) (sym (negative_ends_are b e)) m) in
    record {
      low = b.from;
      high = int_min b.to (negsuc 0);
      low_end = at b.from (inl refl);
      high_end = at (int_min b.to (negsuc 0)) (inr (inl refl));
      between = λ x. between_below_zero x b.from (int_min b.to (negsuc 0)) (negsuc v) (omega (arith, ints, clamps)) h.low (omega (arith, ints, clamps, h.high));
    }

pub quotient_in : (u v : ℤ) (a b : Range) → (v ≡ pos 0 → ⊥) → InRange u a → InRange v b → InRange (int_div u v) (quotient_range a b)
quotient_in u v a b n h k =
    let c = enclosed v b n k in
    between_in (int_div u v) (int_div a.from v) (int_div a.to v) (quotient_range a b)
    (between_in (int_div a.from v) (int_div a.from c.low) (int_div a.from c.high) (quotient_range a b) (from_in a b c.low c.low_end) (from_in a b c.high c.high_end) (c.between a.from))
    (between_in (int_div a.to v) (int_div a.to c.low) (int_div a.to c.high) (quotient_range a b) (to_in a b c.low c.low_end) (to_in a b c.high c.high_end) (c.between a.to))
    (between_dividends u v a n h)
