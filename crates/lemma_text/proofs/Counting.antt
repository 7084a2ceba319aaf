-- Numbers that are counted from 1.
use Rattle.std.proofs.Common.{◌≡◌, refl, ℕ, zero, suc, ◌≤◌, true, arith, leb-true}
use Rattle.std.specs.Prelude.{ℤ, pos, negsuc, unsigned_abs}
use Rattle.lemma_text.specs.Numerals.{is_counted}

pub size_is : (n : ℕ) (z : ℤ) → is_counted n z ≡ true → (1 ≤ unsigned_abs z) × (unsigned_abs z ≤ n) × (pos (unsigned_abs z) ≡ z)
size_is n (pos zero) h = absurd (cc)
size_is n (pos (suc k)) h = (omega arith, leb-true (suc k) n h, refl)
size_is n (negsuc k) h = absurd (cc)
