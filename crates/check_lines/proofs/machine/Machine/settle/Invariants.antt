use Rattle.std.proofs.Common.{◌≡◌, Option, length}
use Rattle.check_lines.specs.Ledger.{Ledger}
use Rattle.check_lines.specs.Machine.{game_of, base_of, IsReady, left_at_most}
use Rattle.check_lines.specs.Telling.{Tells}
use Rattle.check_lines.proofs.machine.Machine.settle.Given as goal

abbrev pub invariant-loop-self : goal.invariant-loop-self
invariant-loop-self l = record {
  tells : (p : Option Ledger) → Tells l.fn.self p → Tells l.self p;
  ready : IsReady l.self;
  same : game_of l.self ≡ game_of l.fn.self;
  base : base_of l.self ≡ base_of l.fn.self;
}

abbrev pub decreases-loop-self : goal.decreases-loop-self
decreases-loop-self l = left_at_most l.self.due (length l.self.nesting)
