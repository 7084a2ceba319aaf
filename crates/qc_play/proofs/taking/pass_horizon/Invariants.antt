use Rattle.std.proofs.Common.{◌≤◌, length, ◌∷◌}
use Rattle.qc_play.proofs.PartLines.{DotsLeft}
use Rattle.qc_play.proofs.taking.pass_horizon.Given as goal

abbrev pub invariant-loop-lines : goal.invariant-loop-lines
invariant-loop-lines l = record {
  dotted : DotsLeft l.fn.lines (l.line ∷ l.lines);
  shorter : length l.lines ≤ length l.fn.lines;
}

abbrev pub decreases-loop-lines : goal.decreases-loop-lines
decreases-loop-lines l = length l.lines
