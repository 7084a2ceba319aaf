use Rattle.std.proofs.Common.{◌≡◌, ◌≤◌, ◌++◌, ◌∷◌, length, map}
use Rattle.proof_tree.specs.Lines.{step_line}
use Rattle.strategy_arena.proofs.read.steps.Given as goal

abbrev pub invariant-loop-step : goal.invariant-loop-step
invariant-loop-step l = record {
  told : map step_line l.steps ++ l.line ∷ l.lines ≡ l.fn.first ∷ l.fn.lines;
  shorter : length l.lines ≤ length l.fn.lines;
}

abbrev pub decreases-loop-step : goal.decreases-loop-step
decreases-loop-step l = length l.lines
