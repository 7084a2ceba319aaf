use Rattle.std.proofs.Common.{List, drop, map}
use Rattle.proof_tree.specs.declared.line.Line.{Line}
use Rattle.proof_tree.specs.Lines.{step_line}
use Rattle.qc_play.proofs.Putting.{IsPut}
use Rattle.qc_play.proofs.unrolled.put_steps.Given as goal

abbrev pub invariant-loop-step : goal.invariant-loop-step
invariant-loop-step l = (end : List Line) → IsPut l.lines.items end (map step_line (drop l.step-index l.steps)) → IsPut l.fn.lines.items end (map step_line l.steps)
