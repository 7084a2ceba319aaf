use Rattle.std.proofs.Common.{◌≡◌, ℕ, length, take, true}
use Rattle.prop_engine.specs.Closing.{is_between}
use Rattle.prop_engine.specs.Watching.{IsHintsOf, is_marked, MarkedWait, all_waiting, is_watched, names, moved_ever, MayRest}
use Rattle.prop_engine.proofs.waking.wake_variables.Given as goal

abbrev pub invariant-loop-x : goal.invariant-loop-x
invariant-loop-x l = record {
  waiting : MarkedWait l.list;
  inside : all_waiting (is_between l.span.first l.span.end) l.list ≡ true;
  hints : IsHintsOf l.problem l.hints;
  count : length l.list.marks ≡ length l.problem.constraints;
  kept : (k : ℕ) → is_marked l.initial.list k ≡ true → is_marked l.list k ≡ true;
  spared : (k x : ℕ) → is_between l.span.first l.span.end k ≡ true → names (take l.x-index l.variables) x ≡ true → is_watched l.watches k x ≡ true → MayRest l.problem l.list l.store.box (moved_ever l.problem l.store.box x) x k;
}
