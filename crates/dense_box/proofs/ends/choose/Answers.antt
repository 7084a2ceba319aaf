use Rattle.std.proofs.Common.{◌∙◌, sym}
use Rattle.dense_box.proofs.Ending.{chosen_here}
use Rattle.dense_box.proofs.ends.choose.Goals as goal

pub returns-clause-placed : goal.returns-clause-placed
returns-clause-placed c = λ s p h. c.take_chosen.ensures.chosen ∙ sym (chosen_here c.args.levels.now.problem.now c.args.i.0 c.args.remains.now.box s p h c.requires.scope c.args.values.now)
