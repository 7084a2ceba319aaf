use Rattle.std.proofs.Common.{◌≡◌, ℕ, length, take, true, false}
use Rattle.prop_engine.specs.Closing.{is_between}
use Rattle.prop_engine.specs.Watching.{IsHintsOf, is_marked, MarkedWait, all_waiting, is_own, has_watch, MayRest}
use Rattle.prop_engine.proofs.waking.wake_all.Given as goal

abbrev pub invariant-loop-watch : goal.invariant-loop-watch
invariant-loop-watch l = record {
  waiting : MarkedWait l.list;
  inside : all_waiting (is_between l.span.first l.span.end) l.list ≡ true;
  hints : IsHintsOf l.problem l.hints;
  count : length l.list.marks ≡ length l.problem.constraints;
  kept : (k : ℕ) → is_marked l.initial.list k ≡ true → is_marked l.list k ≡ true;
  spared : (k : ℕ) → is_between l.span.first l.span.end k ≡ true → is_own l.own k ≡ false → has_watch (take l.watch-index l.watch-items) k ≡ true → MayRest l.problem l.list l.store.box l.fn.moved l.x.0 k;
}
