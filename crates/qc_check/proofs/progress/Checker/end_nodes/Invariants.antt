use Rattle.std.proofs.Common.{◌≡◌, ℕ, List, length}
use Rattle.check_lines.specs.Machine.{game_of, IsReady, left_at_most}
use Rattle.qc_check.specs.Keeping.{IsSettling}
use Rattle.qc_check.proofs.progress.Checker.end_nodes.Given as goal

abbrev pub invariant-loop-self : goal.invariant-loop-self
invariant-loop-self l = record {
  settling : (before : List ℕ) → IsSettling l.fn.self before l.bytes l.at → IsSettling l.self before l.bytes l.at;
  ready : IsReady l.self.machine;
  same : game_of l.self.machine ≡ game_of l.fn.self.machine;
  read : l.self.read ≡ l.fn.self.read;
  stop : l.self.stop ≡ l.fn.self.stop;
}

abbrev pub decreases-loop-self : goal.decreases-loop-self
decreases-loop-self l = left_at_most l.self.machine.due (length l.self.machine.nesting)
