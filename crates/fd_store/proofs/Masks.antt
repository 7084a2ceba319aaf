-- Bits of a word under a mask.
use Rattle.std.proofs.Common.{◌≡◌, ◌⊎◌, inl, inr, ℕ, suc, ◌-◌, ◌*◌, ◌/◌, ◌%◌, ◌^◌, ◌<◌, ◌≤◌, min, Bool, true, false, not, ◌&&◌, ap, ◌∙◌, refl, arith, zero}
use Rattle.std.specs.Prelude.{nat_le, ◌==◌}
use Rattle.std.specs.Int.{bit_at}
use Rattle.std.proofs.lemmas.Bool.Decides.{nat_tests}
use Rattle.std.proofs.lemmas.Nat.Bits.{bit_at_and, bit_at_ones, bit_at_ones_above, bit_at_not, ones_shr, ones_shl, bit_at_mask_inside, bit_at_mask_below, bit_at-lt, bit_at_above, bit_at-trailing_zeros, bit_at-zero}
use Rattle.std.proofs.lemmas.Nat.{leading_top, le-div, div_below, pow_pos}
use lib.Bits.{bit_and}
use lib.Count.{count_leading_zeros, count_trailing_zeros}
use mir.Syntax.{w64}
use Rattle.fd_store.specs.Places.{is_inside}

side : (x y : ℕ) → ((x ≤ y) × (nat_le x y ≡ true)) ⊎ ((y < x) × (nat_le x y ≡ false))
side x y = grind (arith, nat_tests)

low_ones : (e i : ℕ) → e ≤ 64 → ((i < e) × (bit_at (18446744073709551615 / 2 ^ (64 - e)) i ≡ 1)) ⊎ ((e ≤ i) × (bit_at (18446744073709551615 / 2 ^ (64 - e)) i ≡ 0))
low_ones e i h =
    let q = ones_shr 64 (64 - e) (omega arith) in
    elim (side e i) [
      | inl p ↦ inr (p.0, ap (λ n. bit_at n i) q ∙ bit_at_ones_above (64 - (64 - e)) i (omega arith))
      | inr p ↦ inl (p.0, ap (λ n. bit_at n i) q ∙ bit_at_ones (64 - (64 - e)) i (omega arith))
    ]

high_ones : (a i : ℕ) → a < 64 → i < 64 → ((a ≤ i) × (bit_at (18446744073709551615 * 2 ^ a % 18446744073709551616) i ≡ 1)) ⊎ ((i < a) × (bit_at (18446744073709551615 * 2 ^ a % 18446744073709551616) i ≡ 0))
high_ones a i h k =
    let e = ones_shl 64 a (omega arith) in
    elim (side a i) [
      | inl p ↦ inl (p.0, ap (λ n. bit_at n i) e ∙ bit_at_mask_inside a 64 i p.0 k)
      | inr p ↦ inr (p.0, ap (λ n. bit_at n i) e ∙ bit_at_mask_below a 64 i p.0)
    ]

joined : (x y r a e i : ℕ) → r ≡ min x y → ((i < e) × (x ≡ 1)) ⊎ ((e ≤ i) × (x ≡ 0)) → ((a ≤ i) × (y ≡ 1)) ⊎ ((i < a) × (y ≡ 0)) → (r == 1) ≡ is_inside a e i
joined x y r a e i q h k = grind (arith, nat_tests)

pub mask_bit : (a e i : ℕ) → a < e → e ≤ 64 → i < 64 →
    (bit_at (bit_and (18446744073709551615 / 2 ^ (64 - e)) (18446744073709551615 * 2 ^ a % 18446744073709551616)) i == 1) ≡ is_inside a e i
mask_bit a e i h k l =
    joined _ _ _ a e i (bit_at_and (18446744073709551615 / 2 ^ (64 - e)) (18446744073709551615 * 2 ^ a % 18446744073709551616) i)
    (low_ones e i k) (high_ones a i (omega arith) l)

both : (x y r : ℕ) → r ≡ min x y → x < 2 → y < 2 → (r == 1) ≡ ((x == 1) && (y == 1))
both x y r e h k = grind (arith, nat_tests)

pub picked_bit : (x m i : ℕ) (b : Bool) → (bit_at m i == 1) ≡ b → (bit_at (bit_and x m) i == 1) ≡ ((bit_at x i == 1) && b)
picked_bit x m i b e = both (bit_at x i) (bit_at m i) _ (bit_at_and x m i) (bit_at-lt x i) (bit_at-lt m i) ∙ ap (λ c. (bit_at x i == 1) && c) e

without : (x y r : ℕ) → r ≡ min x (1 - y) → x < 2 → y < 2 → (r == 1) ≡ ((x == 1) && not (y == 1))
without x y r e h k = grind (arith, nat_tests)

pub cleared_bit : (x m i : ℕ) (b : Bool) → m < 18446744073709551616 → i < 64 → (bit_at m i == 1) ≡ b →
    (bit_at (bit_and x (18446744073709551615 - m)) i == 1) ≡ ((bit_at x i == 1) && not b)
cleared_bit x m i b s h e =
    without (bit_at x i) (bit_at m i) _ (bit_at_and x (18446744073709551615 - m) i ∙ ap (min (bit_at x i)) (bit_at_not w64 m i s h)) (bit_at-lt x i) (bit_at-lt m i)
    ∙ ap (λ c. (bit_at x i == 1) && not c) e

-- a bit, by the test of it
pub bit_zero : (n i : ℕ) → (bit_at n i == 1) ≡ false → bit_at n i ≡ 0
bit_zero n i e = zero_of (bit_at n i) (bit_at-lt n i) e
  where
    zero_of : (x : ℕ) → x < 2 → (x == 1) ≡ false → x ≡ 0
    zero_of x h e = grind (arith, nat_tests)

pub bit_one : (n i : ℕ) → (bit_at n i == 1) ≡ true → bit_at n i ≡ 1
bit_one n i e = one_of (bit_at n i) e
  where
    one_of : (x : ℕ) → (x == 1) ≡ true → x ≡ 1
    one_of x e = grind (arith, nat_tests)

-- the lowest bit
pub trailing_none : (n i : ℕ) → n < 18446744073709551616 → i < count_trailing_zeros 64 n → bit_at n i ≡ 0
trailing_none zero i s h = bit_at-zero i
trailing_none (suc n) i s h = (bit_at-trailing_zeros w64 (suc n) (omega arith) s).2 i h

trailing-zero : count_trailing_zeros 64 0 ≡ 64
unfolding count_trailing_zeros
trailing-zero = refl

pub trailing_found : (n : ℕ) → n < 18446744073709551616 → count_trailing_zeros 64 n < 64 → bit_at n (count_trailing_zeros 64 n) ≡ 1
trailing_found zero s h = absurd (omega (arith, trailing-zero))
trailing_found (suc n) s h = (bit_at-trailing_zeros w64 (suc n) (omega arith) s).1

-- the highest bit
leading-zero : count_leading_zeros 64 0 ≡ 64
unfolding count_leading_zeros
leading-zero = refl

top_bit : (n j : ℕ) → 2 ^ j ≤ n → n < 2 ^ suc j → bit_at n j ≡ 1
top_bit n j h k =
    let p = pow_pos j in
    let low : 1 ≤ n / 2 ^ j = le-div 1 n (2 ^ j) p (omega arith) in
    let high : n / 2 ^ j < 2 = div_below n (2 ^ j) 2 p (omega arith) in
    let one : n / 2 ^ j ≡ 1 = omega arith in
    ap (λ d. d % 2) one

pub leading_none : (n i : ℕ) → n < 18446744073709551616 → 64 - count_leading_zeros 64 n ≤ i → bit_at n i ≡ 0
leading_none zero i s h = bit_at-zero i
leading_none (suc n) i s h =
    let t = leading_top 64 (suc n) (omega arith) s in
    bit_at_above (suc n) (suc t.0) i t.3 (omega (arith, t.1))

pub leading_found : (n : ℕ) → n < 18446744073709551616 → 0 < 64 - count_leading_zeros 64 n → bit_at n (64 - count_leading_zeros 64 n - 1) ≡ 1
leading_found zero s h = absurd (omega (arith, leading-zero))
leading_found (suc n) s h =
    let t = leading_top 64 (suc n) (omega arith) s in
    let at : 64 - count_leading_zeros 64 (suc n) - 1 ≡ t.0 = omega (arith, t.1) in
    ap (bit_at (suc n)) at ∙ top_bit (suc n) t.0 t.2 t.3
