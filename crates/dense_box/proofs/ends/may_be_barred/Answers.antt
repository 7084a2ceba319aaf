use Rattle.std.proofs.Common.{◌∙◌, sym}
use Rattle.dense_box.proofs.Ending.{barred_here}
use Rattle.dense_box.proofs.ends.may_be_barred.Goals as goal

pub returns : goal.returns
returns c = λ s p h. c.is_barred.ensures ∙ sym (barred_here c.args.levels.now.problem.now c.args.i.0 c.args.remains.now.box s p h)
