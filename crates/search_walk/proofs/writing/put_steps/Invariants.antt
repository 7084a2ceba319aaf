use Rattle.std.proofs.Common.{◌≡◌, ◌++◌, map, take}
use Rattle.proof_tree.specs.Lines.{step_line}
use Rattle.search_walk.proofs.writing.put_steps.Given as goal

abbrev pub invariant-loop-step : goal.invariant-loop-step
invariant-loop-step l = l.lines ≡ l.fn.lines ++ map step_line (take l.step-index l.steps)
