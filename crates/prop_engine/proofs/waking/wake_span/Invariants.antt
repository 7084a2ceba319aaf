use Rattle.std.proofs.Common.{◌≡◌, ℕ, ◌≤◌, ◌<◌, ◌-◌, length, true}
use Rattle.prop_engine.specs.Closing.{is_between}
use Rattle.prop_engine.specs.Watching.{IsHintsOf, MarkedWait, all_waiting, IsSpared}
use Rattle.prop_engine.proofs.waking.wake_span.Given as goal

abbrev pub invariant-loop-k : goal.invariant-loop-k
invariant-loop-k l = record {
  waiting : MarkedWait l.list;
  inside : all_waiting (is_between l.span.first l.span.end) l.list ≡ true;
  hints : IsHintsOf l.problem l.hints;
  count : length l.list.marks ≡ length l.problem.constraints;
  from : l.span.first ≤ l.k;
  spared : (j : ℕ) → l.span.first ≤ j → j < l.k → IsSpared l.problem l.list l.store.box j;
}

abbrev pub decreases-loop-k : goal.decreases-loop-k
decreases-loop-k l = l.span.end - l.k
