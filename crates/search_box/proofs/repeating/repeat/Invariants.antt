use Rattle.std.proofs.Common.{◌≡◌, true, drop}
use Rattle.proof_tree.specs.Steps.{after_steps}
use Rattle.prop_base.specs.Pruning.{IsPruning, are_pruned_by}
use Rattle.prop_engine.specs.Closing.{is_between}
use Rattle.search_box.proofs.repeating.repeat.Given as goal

abbrev pub invariant-loop-step : goal.invariant-loop-step
invariant-loop-step l = record {
  pruning : IsPruning (is_between l.span.first l.span.end) l.problem l.fn.store l.store l.fn.steps l.steps;
  legal : are_pruned_by (is_between l.span.first l.span.end) l.problem (drop l.step-index l.taken) l.store.box ≡ true;
  reaches : after_steps (drop l.step-index l.taken) l.store.box ≡ after_steps l.taken l.fn.store.box;
}
