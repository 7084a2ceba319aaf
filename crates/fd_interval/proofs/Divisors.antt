-- Quotients truncated towards 0: how they move with the dividend and with a divisor above 0.
use Rattle.std.proofs.Common.{◌≡◌, ℕ, zero, suc, ◌*◌, ◌/◌, ◌≤◌, ◌<◌, ℤ, pos, negsuc, ◌≤ℤ◌, ◌<ℤ◌, neg_ℤ, int_div, int_lt, Bool, true, false, cond, refl, arith, unsigned_abs}
use Rattle.std.proofs.Math.Nat.{div-le_self, mul-div-le, mul-le-mul_left, zero-div, div-one}
use Rattle.std.proofs.lemmas.Nat.{le-div}
use Rattle.std.proofs.lemmas.Int.{ints}
use Rattle.fd_interval.specs.Quotients.{quotient_by_sign}

-- of natural numbers
more_dividend : (m n k : ℕ) → m ≤ n → 0 < k → m / k ≤ n / k
more_dividend m n k h p = le-div (m / k) n k p (omega (arith, mul-div-le m k))

more_divisor : (n k l : ℕ) → k ≤ l → 0 < k → n / l ≤ n / k
more_divisor n k l h p =
    let less : (n / l) * k ≤ (n / l) * l = mul-le-mul_left (n / l) h in
    le-div (n / l) n k p (omega (arith, less, mul-div-le n l))

pub up_with_dividend : (x z y : ℤ) → x ≤ℤ z → pos 0 <ℤ y → int_div x y ≤ℤ int_div z y
up_with_dividend (pos a) (pos b) (pos k) h p = omega (arith, ints, more_dividend a b k (omega (arith, ints)) (omega (arith, ints)))
up_with_dividend (pos a) (negsuc b) (pos k) h p = absurd h.le
up_with_dividend (negsuc a) (pos b) (pos k) h p = omega (arith, ints)
up_with_dividend (negsuc a) (negsuc b) (pos k) h p = omega (arith, ints, more_dividend (suc b) (suc a) k (omega (arith, ints)) (omega (arith, ints)))
up_with_dividend x z (negsuc k) h p = absurd p.lt

-- a dividend of at least 0
pub down_with_divisor : (x y z : ℤ) → pos 0 ≤ℤ x → pos 0 <ℤ y → y ≤ℤ z → int_div x z ≤ℤ int_div x y
down_with_divisor (pos a) (pos k) (pos l) n p h = omega (arith, ints, more_divisor a k l (omega (arith, ints)) (omega (arith, ints)))
down_with_divisor (pos a) (pos k) (negsuc l) n p h = absurd h.le
down_with_divisor (pos a) (negsuc k) z n p h = absurd p.lt
down_with_divisor (negsuc a) y z n p h = absurd n.le

-- a dividend of at most 0
pub up_with_divisor : (x y z : ℤ) → x ≤ℤ pos 0 → pos 0 <ℤ y → y ≤ℤ z → int_div x y ≤ℤ int_div x z
up_with_divisor (pos zero) (pos k) (pos l) n p h = omega (arith, ints, zero-div k, zero-div l)
up_with_divisor (pos (suc a)) (pos k) (pos l) n p h = absurd (omega (arith, ints))
up_with_divisor (negsuc a) (pos k) (pos l) n p h = omega (arith, ints, more_divisor (suc a) k l (omega (arith, ints)) (omega (arith, ints)))
up_with_divisor x (pos k) (negsuc l) n p h = absurd h.le
up_with_divisor x (negsuc k) z n p h = absurd p.lt

-- a quotient by a divisor from c to d lies between those of the ends
pub at_least : (l c d x y : ℤ) → l ≤ℤ x → pos 0 <ℤ c → c ≤ℤ y → y ≤ℤ d → quotient_by_sign l c d ≤ℤ int_div x y
at_least l c d x y h p from to = by (int_lt l (pos 0)) refl
  where
    positive : pos 0 <ℤ y
    positive = omega (arith, ints)

    above : int_div l y ≤ℤ int_div x y
    above = up_with_dividend l x y h positive

    by : (t : Bool) → int_lt l (pos 0) ≡ t → int_div l (cond t c d) ≤ℤ int_div x y
    by true e = let k = up_with_divisor l c y (omega (arith, ints)) p from in omega (arith, ints, above)
    by false e = let k = down_with_divisor l y d (omega (arith, ints)) positive to in omega (arith, ints, above)

pub at_most : (h c d x y : ℤ) → x ≤ℤ h → pos 0 <ℤ c → c ≤ℤ y → y ≤ℤ d → int_div x y ≤ℤ quotient_by_sign h d c
at_most h c d x y k p from to = by (int_lt h (pos 0)) refl
  where
    positive : pos 0 <ℤ y
    positive = omega (arith, ints)

    below : int_div x y ≤ℤ int_div h y
    below = up_with_dividend x h y k positive

    by : (t : Bool) → int_lt h (pos 0) ≡ t → int_div x y ≤ℤ int_div h (cond t d c)
    by true e = let m = up_with_divisor h y d (omega (arith, ints)) positive to in omega (arith, ints, below)
    by false e = let m = down_with_divisor h c y (omega (arith, ints)) p from in omega (arith, ints, below)

-- a divisor below 0 gives the quotient of the opposite numbers
pub flip : (x y : ℤ) → y <ℤ pos 0 → int_div x y ≡ int_div (neg_ℤ x) (neg_ℤ y)
flip x (pos n) h = absurd (omega (arith, ints))
flip (pos zero) (negsuc n) h = omega (arith, ints, zero-div (suc n))
flip (pos (suc m)) (negsuc n) h = refl
flip (negsuc m) (negsuc n) h = refl

-- a quotient is no farther from 0 than the dividend
pub no_farther : (x y : ℤ) → unsigned_abs (int_div x y) ≤ unsigned_abs x
no_farther (pos a) (pos b) = div-le_self a b
no_farther (pos a) (negsuc b) = omega (arith, ints, div-le_self a (suc b))
no_farther (negsuc a) (pos b) = omega (arith, ints, div-le_self (suc a) b)
no_farther (negsuc a) (negsuc b) = div-le_self (suc a) (suc b)

pub by_one : (x : ℤ) → int_div x (pos 1) ≡ x
by_one (pos a) = omega (arith, ints, div-one a)
by_one (negsuc a) = omega (arith, ints, div-one (suc a))

pub by_minus_one : (x : ℤ) → int_div x (negsuc 0) ≡ neg_ℤ x
by_minus_one (pos a) = omega (arith, ints, div-one a)
by_minus_one (negsuc a) = omega (arith, ints, div-one (suc a))
