use Rattle.qc_cascade.proofs.Joint.{joint_pruned, joint_closing}
use Rattle.qc_cascade.proofs.cascade.close_joint.Goals as goal

pub returns-clause-pruning : goal.returns-clause-pruning
returns-clause-pruning g c =
    joint_pruned c.args.levels.now.problem.now c.args.i.0 c.args.k.0 c.span_before-closed.result c.constraints_between-fresh.result _ _ _ _ c.requires.ahead c.span_before-closed.ensures c.constraints_between-fresh.ensures c.close_added.ensures.pruning

pub returns-clause-answer : goal.returns-clause-answer
returns-clause-answer g c =
    joint_closing c.close_added.result c.args.levels.now.problem.now c.args.i.0 c.args.k.0 c.span_before-closed.result c.constraints_between-fresh.result _ c.requires.ahead c.span_before-closed.ensures c.constraints_between-fresh.ensures c.close_added.ensures.answer
