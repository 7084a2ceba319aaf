use Rattle.qc_print.proofs.Steps.{next_scope}
use Rattle.qc_print.proofs.problem.write_problem.Goals as goal

pub loop-i-preserved : goal.loop-i-preserved
loop-i-preserved c = next_scope c.args.problem.now c.loop-i.i c.scope.result.now _ _ _ c.scope.ensures c.in_ok-put_scope.ensures c.loop-i.invariant
