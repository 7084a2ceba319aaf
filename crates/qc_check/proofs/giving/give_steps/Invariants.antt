use Rattle.std.proofs.Common.{drop, map}
use Rattle.proof_tree.specs.Lines.{step_line}
use Rattle.check_lines.specs.Machine.{IsReady}
use Rattle.qc_check.specs.declared.space.Space.{Space}
use Rattle.qc_check.specs.Giving.{Takes}
use Rattle.qc_check.proofs.giving.give_steps.Given as goal

abbrev pub invariant-loop-step : goal.invariant-loop-step
invariant-loop-step l = record {
  ready : IsReady l.space.machine;
  takes : (end : Space) → Takes l.space end (map step_line (drop l.step-index l.steps)) → Takes l.fn.space end (map step_line l.steps);
}
