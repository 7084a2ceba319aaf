use Rattle.dense_nest.proofs.Shown.{part_barred}
use Rattle.dense_nest.proofs.nest.Nest.add_barred.Goals as goal

pub returns-clause-stays : goal.returns-clause-stays
returns-clause-stays c = λ us boxes d p. part_barred c.args.self.now us boxes d p c.add_barred.new.self c.scope-i.result.0 c.scope-i.ensures c.add_barred.ensures.others c.add_barred.ensures.same c.add_barred.ensures.stands
