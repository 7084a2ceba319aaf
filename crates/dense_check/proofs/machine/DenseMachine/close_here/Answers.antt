use Rattle.dense_check.proofs.Ending.{stop_order, stop_bound}
use Rattle.dense_check.proofs.machine.DenseMachine.close_here.Goals as goal

pub close-requires-clause-order : goal.close-requires-clause-order
close-requires-clause-order c = stop_order c.args.self.now c.scope-i.result.0 c.joint_stop-stop.result c.requires.part c.scope-i.ensures c.joint_stop-stop.ensures

pub close-requires-clause-bound : goal.close-requires-clause-bound
close-requires-clause-bound c = stop_bound c.args.self.now c.scope-i.result.0 c.joint_stop-stop.result c.requires.part c.scope-i.ensures c.joint_stop-stop.ensures
