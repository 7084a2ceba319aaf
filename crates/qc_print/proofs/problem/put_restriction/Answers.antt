use Rattle.qc_model.specs.Canonical.{constraint_text}
use Rattle.qc_print.proofs.Steps.{next_item}
use Rattle.qc_print.proofs.problem.put_restriction.Goals as goal

pub loop-constraint-preserved : goal.loop-constraint-preserved
loop-constraint-preserved c =
    next_item (constraint_text c.args.variables.now) c.args.constraints.now c.loop-constraint.constraint-index c.constraint-item.result _ _ _
    c.loop-constraint-test.true c.constraint-item.is c.in_ok-put_constraint.ensures c.loop-constraint.invariant
