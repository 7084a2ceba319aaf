use Rattle.std.proofs.Common.{◌≡◌, ℕ, ◌<◌, length, true, false}
use Rattle.std.specs.Prelude.{◌==◌, slice_get, Some}
use Rattle.proof_tree.specs.declared.tree.Step.{Step}
use Rattle.prop_engine.specs.Closing.{is_between}
use Rattle.prop_engine.specs.Watching.{IsHintsOf, is_marked, MarkedWait, all_waiting, is_watched, step_variable, moved_by, MayRest}
use Rattle.prop_engine.proofs.waking.wake_changed.Given as goal

abbrev pub invariant-loop-step : goal.invariant-loop-step
invariant-loop-step l = record {
  waiting : MarkedWait l.list;
  inside : all_waiting (is_between l.span.first l.span.end) l.list ≡ true;
  hints : IsHintsOf l.problem l.hints;
  count : length l.list.marks ≡ length l.problem.constraints;
  kept : (k : ℕ) → is_marked l.initial.list k ≡ true → is_marked l.list k ≡ true;
  spared : (k i : ℕ) (s : Step) → is_between l.span.first l.span.end k ≡ true → (l.own.0 == k) ≡ false → i < l.step-index → slice_get l.steps i ≡ Some s → is_watched l.watches k (step_variable s).0 ≡ true → MayRest l.problem l.list l.store.box (moved_by s l.store.box) (step_variable s).0 k;
}
