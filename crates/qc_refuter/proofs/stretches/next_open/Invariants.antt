use Rattle.std.proofs.Common.{◌≡◌, ℕ, ◌<◌, ◌≤◌, ◌-◌, length, get_or}
use Rattle.qc_refuter.proofs.stretches.next_open.Given as goal

-- all that was passed is full
abbrev pub invariant-loop-at : goal.invariant-loop-at
invariant-loop-at l = record {
  later : l.from ≤ l.at;
  most : l.at ≤ length l.free;
  full : (k : ℕ) → l.from ≤ k → k < l.at → get_or l.free k 0 ≡ 0;
}

abbrev pub decreases-loop-at : goal.decreases-loop-at
decreases-loop-at l = length l.free - l.at
