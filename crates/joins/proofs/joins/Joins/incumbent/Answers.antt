use Rattle.joins.proofs.AtScope.{incumbent_read}
use Rattle.joins.proofs.joins.Joins.incumbent.Goals as goal

pub returns : goal.returns
returns c =
    let j = c.args.self.now in
    λ xs t. incumbent_read j.problem.now j.joins.items c.args.i.0 c.index.result.now xs c.incumbent.result j.joined c.requires c.index.ensures c.incumbent.ensures t
