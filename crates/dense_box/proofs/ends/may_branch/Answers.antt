use Rattle.std.proofs.Common.{◌∙◌, sym}
use Rattle.dense_box.proofs.Ending.{branch_here}
use Rattle.dense_box.proofs.ends.may_branch.Goals as goal

pub returns : goal.returns
returns c = λ s p h. c.is_branch.ensures ∙ sym (branch_here c.args.levels.now.problem.now c.args.i.0 c.args.remains.now.box s p h c.args.x.0)
