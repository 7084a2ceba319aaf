use Rattle.std.proofs.Common.{◌≡◌, length, true}
use Rattle.prop_base.specs.Pruning.{IsPruning}
use Rattle.prop_engine.specs.Closing.{is_between}
use Rattle.prop_engine.specs.Watching.{MarkedWait, all_waiting, KeepsUnmarked}
use Rattle.prop_engine.proofs.engine.next_change.Given as goal

abbrev pub invariant-loop-c : goal.invariant-loop-c
invariant-loop-c g l = record {
  pruning : IsPruning (is_between l.fn.span.first l.fn.span.end) l.problem l.initial.store l.store l.initial.steps l.steps;
  content : l.store.box ≡ l.initial.store.box;
  same : l.steps ≡ l.initial.steps;
  count : length l.list.marks ≡ length l.problem.constraints;
  waiting : MarkedWait l.list;
  inside : all_waiting (is_between l.fn.span.first l.fn.span.end) l.list ≡ true;
  kept : KeepsUnmarked (is_between l.fn.span.first l.fn.span.end) l.problem l.list l.store.box;
}

abbrev pub decreases-loop-c : goal.decreases-loop-c
decreases-loop-c g l = length l.list.queue
