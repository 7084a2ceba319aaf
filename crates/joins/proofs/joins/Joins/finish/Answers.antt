use Rattle.joins.specs.Seen.{verdict_of}
use Rattle.joins.proofs.AtScope.{has_room, verdict_read}
use Rattle.joins.proofs.joins.Joins.finish.Goals as goal

pub finish-requires : goal.finish-requires
finish-requires c =
    let j = c.args.self.now in
    has_room j.problem.now j.joins.items c.args.i.0 c.index.result.now j.out.list.capacity j.joined c.requires c.index.ensures j.room

pub returns-clause-verdict : goal.returns-clause-verdict
returns-clause-verdict c =
    let j = c.args.self.now in
    λ xs t.
    verdict_read j.problem.now j.joins.items c.args.i.0 c.index.result.now c.args.values.now xs (verdict_of c.finish.result c.finish.new.out.list.items) j.joined c.requires c.index.ensures c.finish.ensures.verdict t
