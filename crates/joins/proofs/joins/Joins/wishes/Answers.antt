use Rattle.joins.proofs.AtScope.{wishes_read}
use Rattle.joins.proofs.joins.Joins.wishes.Goals as goal

pub returns : goal.returns
returns c =
    let j = c.args.self.now in
    wishes_read j.problem.now j.joins.items c.args.i.0 c.index.result.now c.wishes.result.now j.joined c.requires c.index.ensures c.wishes.ensures
