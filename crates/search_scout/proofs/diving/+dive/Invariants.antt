use Rattle.std.proofs.Common.{◌≤◌, ◌+◌, ◌*◌}
use Rattle.prop_engine.specs.Closing.{IsClosedFor, is_between}
use Rattle.search_scout.specs.Ground.{Went}
use Rattle.search_scout.proofs.diving.+dive.Given as goal

abbrev pub decreases-dive : goal.decreases-dive
decreases-dive l = 10 * l.ground.now.turns + 5

abbrev pub decreases-step : goal.decreases-step
decreases-step l = 10 * l.ground.now.turns + 4

abbrev pub decreases-with_value : goal.decreases-with_value
decreases-with_value l = 10 * l.ground.now.turns + 7

abbrev pub decreases-below_value : goal.decreases-below_value
decreases-below_value l = 10 * l.ground.now.turns + 6

abbrev pub invariant-dive-steps : goal.invariant-dive-steps
invariant-dive-steps l = record {
  went : Went l.level.problem.now l.fn.ground.store l.ground.engine l.ground.store;
  closed : IsClosedFor (is_between l.level.in_force.first l.level.in_force.end) l.level.problem.now l.ground.store.box;
  turns : l.ground.turns ≤ l.fn.ground.turns;
}

abbrev pub decreases-dive-steps : goal.decreases-dive-steps
decreases-dive-steps l = l.ground.turns
