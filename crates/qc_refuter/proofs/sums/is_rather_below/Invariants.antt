use Rattle.std.proofs.Common.{◌≤◌, length}
use Rattle.qc_refuter.proofs.sums.is_rather_below.Given as goal

abbrev pub invariant-loop-k : goal.invariant-loop-k
invariant-loop-k l = record {
  factor : l.k ≤ length l.factors;
  item : l.k ≤ length l.items;
}

abbrev pub decreases-loop-k : goal.decreases-loop-k
decreases-loop-k l = l.k
