use Rattle.dense_nest.proofs.Shown.{part_lost}
use Rattle.dense_nest.proofs.nest.Nest.add_lost.Goals as goal

pub returns-clause-stays : goal.returns-clause-stays
returns-clause-stays c = λ us boxes d p. part_lost c.args.self.now us boxes d p c.add_node.new.self c.scope-i.result.0 c.scope-i.ensures c.add_node.ensures.others c.add_node.ensures.same c.add_node.ensures.stands
