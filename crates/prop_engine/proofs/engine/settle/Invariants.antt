use Rattle.std.proofs.Common.{◌≡◌, length, true, false}
use Rattle.qc_model.specs.Domains.{declared_box, is_sub_box, has_empty}
use Rattle.prop_base.specs.Pruning.{IsPruning, total}
use Rattle.prop_engine.specs.Closing.{is_between}
use Rattle.prop_engine.specs.Watching.{IsHintsOf, MarkedWait, all_waiting, KeepsUnmarked}
use Rattle.prop_engine.proofs.engine.settle.Given as goal

abbrev pub invariant-loop-own : goal.invariant-loop-own
invariant-loop-own g l = record {
  pruning : IsPruning (is_between l.span.first l.span.end) l.problem l.initial.store l.store l.initial.steps l.steps;
  declared : is_sub_box l.store.box (declared_box l.problem) ≡ true;
  full : has_empty l.store.box ≡ false;
  hints : IsHintsOf l.problem l.hints;
  count : length l.list.marks ≡ length l.problem.constraints;
  waiting : MarkedWait l.list;
  inside : all_waiting (is_between l.span.first l.span.end) l.list ≡ true;
  kept : KeepsUnmarked (is_between l.span.first l.span.end) l.problem l.list l.store.box;
}

abbrev pub decreases-loop-own : goal.decreases-loop-own
decreases-loop-own g l = total l.store.box
