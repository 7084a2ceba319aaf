use Rattle.std.proofs.Common.{◌≡◌, false}
use Rattle.qc_model.specs.Domains.{has_empty}
use Rattle.search_scout.specs.Ground.{Went}
use Rattle.search_scout.proofs.restarts.place_before.Given as goal

abbrev pub invariant-loop-at : goal.invariant-loop-at
invariant-loop-at l = record {
  went : Went l.level.problem.now l.fn.ground.store l.ground.engine l.ground.store;
  full : has_empty l.ground.store.box ≡ false;
}
