use Rattle.prop_engine.specs.Closing.{IsClosedFor, is_between}
use Rattle.search_scout.specs.Ground.{Went}
use Rattle.search_scout.proofs.improving.better_and_better.Given as goal

abbrev pub invariant-loop : goal.invariant-loop
invariant-loop l = record {
  went : Went l.level.problem.now l.fn.ground.store l.ground.engine l.ground.store;
  closed : IsClosedFor (is_between l.level.in_force.first l.level.in_force.end) l.level.problem.now l.ground.store.box;
}
