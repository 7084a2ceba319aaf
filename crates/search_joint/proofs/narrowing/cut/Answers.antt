use Rattle.search_joint.proofs.Narrower.{narrowed_cut}
use Rattle.search_joint.proofs.narrowing.cut.Goals as goal

pub returns-clause-narrowed : goal.returns-clause-narrowed
returns-clause-narrowed c =
    narrowed_cut c.args.x.0 _ _ c.args.store.now c.reserve_trail.new.self _ c.requires c.reserve_trail.ensures.content c.reserve_trail.ensures.past c.remove.ensures.content c.remove.ensures.past
