use Rattle.dense_nest.proofs.Finishing.{finishes}
use Rattle.dense_nest.proofs.nest.Nest.finish_scope.Goals as goal

pub returns-clause-finishes : goal.returns-clause-finishes
returns-clause-finishes c =
    let read = c.read_position-count in
    let comes = c.come_to-self in
    finishes c.args.self.now read.new.self comes.new.self c.loosen.new.self c.args.e read.result comes.result c.own-self.result read.ensures.read read.ensures.made read.ensures.rest
    comes.ensures.verdict comes.ensures.all comes.ensures.joined comes.ensures.rest c.own-self.ensures c.loosen.ensures.verdict c.loosen.ensures.rest
