use Rattle.search_scout.specs.Ground.{CameBack}
use Rattle.search_scout.proofs.restarts.with_restarts.Given as goal

abbrev pub invariant-loop-round : goal.invariant-loop-round
invariant-loop-round l = CameBack l.level.problem.now l.fn.ground.store l.ground.engine l.ground.store
