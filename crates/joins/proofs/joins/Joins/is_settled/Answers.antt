use Rattle.joins.proofs.AtScope.{settled_read}
use Rattle.joins.proofs.joins.Joins.is_settled.Goals as goal

pub returns : goal.returns
returns c =
    let j = c.args.self.now in
    λ xs t. settled_read j.problem.now j.joins.items c.args.i.0 c.index.result.now xs c.is_settled.result j.joined c.requires c.index.ensures c.is_settled.ensures t
