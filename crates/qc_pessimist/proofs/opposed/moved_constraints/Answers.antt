use Rattle.qc_pessimist.specs.Opposed.{move_rule}
use Rattle.qc_pessimist.specs.Table.{place_in}
use Rattle.qc_pessimist.proofs.Steps.{map_step}
use Rattle.qc_pessimist.proofs.opposed.moved_constraints.Goals as goal

pub loop-c-preserved : goal.loop-c-preserved
loop-c-preserved c =
    map_step (move_rule (place_in c.args.table.now)) c.args.problem.now.constraints c.loop-c.c _ _ _ _ _
    c.constraint-constraint.ensures c.loop-c.invariant c.in_ok-push.ensures.items c.in_ok-moved_constraint.ensures
