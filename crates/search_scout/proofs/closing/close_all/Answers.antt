use Rattle.prop_engine.specs.Closing.{is_between}
use Rattle.search_scout.proofs.Going.{went_pruned}
use Rattle.search_scout.proofs.closing.close_all.Goals as goal

pub returns-clause-went : goal.returns-clause-went
returns-clause-went c =
    let l = c.args.level.now in
    went_pruned (is_between l.in_force.first l.in_force.end) l.problem.now c.args.ground.now.engine _ c.args.ground.now.store _ _ _ c.requires.sound c.close_span.ensures.pruning c.close_span.ensures.ready
