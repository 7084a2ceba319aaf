use Rattle.dense_nest.proofs.NodeFinds.{begins}
use Rattle.dense_nest.proofs.nest.Nest.begin.Goals as goal

pub returns-clause-goes : goal.returns-clause-goes
returns-clause-goes c =
    begins c.args.self.now c.args.e c.clear.new.self c.requires.scope c.clear.ensures.stands c.clear.ensures.others c.clear.ensures.same
