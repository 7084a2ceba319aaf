use Rattle.std.proofs.Common.{◌≤◌}
use Rattle.qc_play.proofs.read.count_lines.Given as goal

abbrev pub invariant-loop-byte : goal.invariant-loop-byte
invariant-loop-byte l = l.count ≤ l.byte-index
