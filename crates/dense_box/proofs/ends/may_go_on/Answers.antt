use Rattle.std.proofs.Common.{◌∙◌, sym}
use Rattle.dense_box.proofs.Ending.{next_here}
use Rattle.dense_box.proofs.ends.may_go_on.Goals as goal

pub returns : goal.returns
returns c = λ s p h. c.goes_on.ensures ∙ sym (next_here c.args.levels.now.problem.now c.args.i.0 c.args.remains.now.box s p h c.requires.scope)
