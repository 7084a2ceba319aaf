use Rattle.std.proofs.Common.{◌≡◌, ℕ, ◌+◌, ◌<◌, get_or}
use Rattle.qc_refuter.proofs.stretches.open_stretches.Given as goal

abbrev pub invariant-loop-k : goal.invariant-loop-k
invariant-loop-k l = (j : ℕ) → j + 1 < l.k → get_or l.lows (j + 1) 0 ≡ get_or l.lows j 0 + get_or l.free (j + 1) 0
