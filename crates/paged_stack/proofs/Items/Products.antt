-- A product stays below a bound where one factor falls.
use Rattle.std.proofs.Common.{◌≡◌, ℕ, ◌-◌, ◌+◌, ◌*◌, ◌≤◌, ◌<◌, ap, subst, ◌∙◌, arith, add-mul, one-mul}

pub times_below : (i c s t : ℕ) → i ≤ c → c * s < t → i * s < t
times_below i c s t le h = let e : c ≡ i + (c - i) = omega arith in omega (arith, ap (λ (k : ℕ). k * s) e ∙ add-mul i (c - i) s)

pub one_below : (c s t : ℕ) → 0 < c → c * s < t → s < t
one_below c s t p h = subst (λ (j : ℕ). j < t) (one-mul s) (times_below 1 c s t (omega arith) h)
