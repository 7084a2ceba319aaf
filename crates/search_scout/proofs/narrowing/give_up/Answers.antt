use Rattle.search_scout.proofs.Narrower.{narrowed_cut, full_after}
use Rattle.search_scout.proofs.narrowing.give_up.Goals as goal

pub returns-clause-narrowed : goal.returns-clause-narrowed
returns-clause-narrowed c = narrowed_cut c.args.x.0 _ _ c.args.store.now c.reserve_trail.new.self _ c.reserve_trail.ensures.content c.reserve_trail.ensures.past c.remove.ensures.content c.remove.ensures.past

pub returns-clause-full : goal.returns-clause-full
returns-clause-full c = full_after c.args.x.0 _ _ c.args.store.now c.reserve_trail.new.self c.remove.new.self c.size.result c.requires c.reserve_trail.ensures.content c.remove.ensures.content c.size.ensures
