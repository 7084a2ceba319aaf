use Rattle.std.proofs.Common.{◌≡◌, ◌≤◌}
use Rattle.check_lines.proofs.reads.Reads.back_to.Given as goal

abbrev pub invariant-loop-self : goal.invariant-loop-self
invariant-loop-self l = record {
  marks : l.self.marks ≡ l.initial.self.marks;
  fewer : l.self.count ≤ l.initial.self.count;
}

abbrev pub decreases-loop-self : goal.decreases-loop-self
decreases-loop-self l = l.self.count
