use Rattle.joins.proofs.AtScope.{side_read}
use Rattle.joins.proofs.joins.Joins.side_bound.Goals as goal

pub returns : goal.returns
returns c =
    let j = c.args.self.now in
    λ xs t. side_read j.problem.now j.joins.items c.args.i.0 c.index.result.now xs c.side_bound.result j.joined c.requires c.index.ensures c.side_bound.ensures t
