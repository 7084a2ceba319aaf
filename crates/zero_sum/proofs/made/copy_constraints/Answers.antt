use Rattle.zero_sum.proofs.Steps.{copy_step}
use Rattle.zero_sum.proofs.made.copy_constraints.Goals as goal

pub loop-c-preserved : goal.loop-c-preserved
loop-c-preserved c =
    copy_step c.args.problem.now.constraints c.loop-c.c _ _ _ _ _ c.constraint.ensures c.loop-c.invariant c.in_ok-push.ensures.items c.in_ok-copy_constraint.ensures
