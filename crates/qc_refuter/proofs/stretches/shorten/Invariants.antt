use Rattle.std.proofs.Common.{◌≤◌, ◌-◌}
use Rattle.qc_refuter.specs.Stretches.{AreSkips}
use Rattle.qc_refuter.proofs.stretches.shorten.Given as goal

abbrev pub invariant-loop-at : goal.invariant-loop-at
invariant-loop-at l = record {
  later : l.from ≤ l.at;
  skips : AreSkips l.free l.skips;
}

abbrev pub decreases-loop-at : goal.decreases-loop-at
decreases-loop-at l = l.found - l.at
