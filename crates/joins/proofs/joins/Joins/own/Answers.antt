use Rattle.joins.proofs.AtScope.{own_read}
use Rattle.joins.proofs.joins.Joins.own.Goals as goal

pub returns : goal.returns
returns c =
    let j = c.args.self.now in
    λ xs t. own_read j.problem.now j.joins.items c.args.i.0 c.index.result.now xs c.own.result j.joined c.requires c.index.ensures c.own.ensures t
