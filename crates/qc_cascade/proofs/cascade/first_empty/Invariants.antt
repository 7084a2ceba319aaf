use Rattle.std.proofs.Common.{◌≡◌, ◌<◌, ◌≤◌, ℕ, [], true, false}
use Rattle.qc_model.specs.Closed.{keeps_ends}
use Rattle.qc_model.specs.Domains.{has_empty, is_sub_box, declared_box}
use Rattle.model_levels.specs.Spans.{is_number_within}
use Rattle.prop_base.specs.Pruning.{IsPruning}
use Rattle.prop_engine.specs.Closing.{EachRule}
use Rattle.prop_engine.specs.Watching.{IsReady}
use Rattle.qc_cascade.specs.Ahead.{HasClosed}
use Rattle.qc_cascade.proofs.cascade.first_empty.Given as goal

abbrev pub invariant-loop-k : goal.invariant-loop-k
invariant-loop-k g l = record {
  ready : IsReady l.levels.problem.now l.engine;
  ahead : l.i.0 ≤ l.k;
  pruning : IsPruning (is_number_within l.levels.problem.now l.i.0 l.k) l.levels.problem.now l.initial.store l.store [] l.steps;
  declared : is_sub_box l.store.box (declared_box l.levels.problem.now) ≡ true;
  full : has_empty l.store.box ≡ false;
  kept : EachRule (is_number_within l.levels.problem.now l.i.0 l.k) l.levels.problem.now (keeps_ends l.store.box);
  nearer : (j : ℕ) → l.i.0 ≤ j → j < l.k → HasClosed l.levels.problem.now l.i.0 j l.initial.store.box;
}
