-- Places of the factors and items of a sum, and the widths of its terms.
use Rattle.std.proofs.Common.{◌≡◌, ℕ, ◌-◌, ◌*◌, ◌<◌, ◌≤◌, ◌^◌, true, List, length, get_or, min, refl, arith, ℤ}
use Rattle.std.specs.Prelude.{pos, ◌+ℤ◌, unsigned_abs}
use Rattle.std.specs.List.{list_all}
use Rattle.std.proofs.lemmas.Int.{ints, fits_signed_from_abs}
use Rattle.std.proofs.lemmas.List.Recursion.{and_at}
use mir.Val.{SFits}
use mir.Syntax.{w128}
use Rattle.qc_model.specs.Valid.{is_number}
use Rattle.qc_refuter.proofs.Terms.{abs_sum}

-- a place of both lists, and what is read there
pub within_first : (a b n k : ℕ) → n ≡ min a b → k < n → k < a
within_first a b n k e h = omega arith

pub within_second : (a b n k : ℕ) → n ≡ min a b → k < n → k < b
within_second a b n k e h = omega arith

pub number_at : (ns : List ℤ) (k : ℕ) (d : ℤ) → k < length ns → list_all is_number ns ≡ true → is_number (get_or ns k d) ≡ true
number_at ns k d h t = and_at (list_all is_number) is_number refl (λ _ _. refl) ns k d h t

pub zero_first : (z : ℤ) → pos 0 +ℤ z ≡ z
zero_first z = omega (arith, ints)

-- a sum of few terms and one term more fit
pub term_wide : (z : ℤ) → unsigned_abs z ≤ 10 ^ 18 → SFits w128 z
term_wide z h = fits_signed_from_abs w128 z (omega (arith, h))

pub more_wide : (s z : ℤ) (a b n k : ℕ) → n ≡ min a b → k < n → b ≤ 1000 → unsigned_abs s ≤ k * 10 ^ 18 → unsigned_abs z ≤ 10 ^ 18 → SFits w128 (s +ℤ z)
more_wide s z a b n k e h l m q = fits_signed_from_abs w128 (s +ℤ z) (omega (arith, abs_sum s z, e, h, l, m, q))

-- the last place of the first k, and the places before it
pub last_within : (k n : ℕ) → 0 < k → k ≤ n → k - 1 < n
last_within k n h l = omega arith

pub less_within : (k n : ℕ) → k ≤ n → k - 1 ≤ n
less_within k n h = omega arith

pub most_first : (a b n : ℕ) → n ≡ min a b → n ≤ a
most_first a b n e = omega arith

pub most_second : (a b n : ℕ) → n ≡ min a b → n ≤ b
most_second a b n e = omega arith
