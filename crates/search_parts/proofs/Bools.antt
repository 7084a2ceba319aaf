-- Tests that hold together.
use Rattle.std.proofs.Common.{◌≡◌, ◌<◌, ℕ, Bool, true, false, not, ◌&&◌, refl, ap, arith}
use Rattle.std.specs.Prelude.{nat_lt}
use Rattle.std.proofs.lemmas.Bool.Decides.{nat_tests}

pub not_first : (a b : Bool) → a ≡ false → not (a && b) ≡ true
not_first a b e = ap (λ c. not (c && b)) e

pub not_second : (a b : Bool) → b ≡ false → not (a && b) ≡ true
not_second true b e = ap not e
not_second false b e = refl

pub is_below : (m n : ℕ) → m < n → nat_lt m n ≡ true
is_below m n h = grind (arith, nat_tests)

pub none_below : (n : ℕ) → n ≡ 0 → nat_lt 0 n ≡ false
none_below n e = ap (nat_lt 0) e
