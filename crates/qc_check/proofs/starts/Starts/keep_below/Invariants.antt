use Rattle.std.proofs.Common.{length}
use Rattle.qc_check.specs.Places.{IsTail}
use Rattle.qc_check.proofs.starts.Starts.keep_below.Given as goal

abbrev pub invariant-loop-start : goal.invariant-loop-start
invariant-loop-start l = IsTail l.self l.initial.self

abbrev pub decreases-loop-start : goal.decreases-loop-start
decreases-loop-start l = length l.self
