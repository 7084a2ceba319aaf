-- The number that a few digits write.
use Rattle.std.proofs.Common.{◌<◌, ◌≤◌, ◌^◌, ℕ, suc, zero, lit≤, arith}

-- fewer than eight digits write a number of eight digits at most with one more
pub few_digits : (i : ℕ) → i < 8 → 10 ^ i ≤ 10000000
few_digits zero h = lit≤ tt
few_digits (suc zero) h = lit≤ tt
few_digits (suc (suc zero)) h = lit≤ tt
few_digits (suc (suc (suc zero))) h = lit≤ tt
few_digits (suc (suc (suc (suc zero)))) h = lit≤ tt
few_digits (suc (suc (suc (suc (suc zero))))) h = lit≤ tt
few_digits (suc (suc (suc (suc (suc (suc zero)))))) h = lit≤ tt
few_digits (suc (suc (suc (suc (suc (suc (suc zero))))))) h = lit≤ tt
few_digits (suc (suc (suc (suc (suc (suc (suc (suc i)))))))) h = absurd (omega arith)
