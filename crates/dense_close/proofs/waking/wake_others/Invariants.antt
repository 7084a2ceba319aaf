use Rattle.std.proofs.Common.{◌≡◌, ◌≢◌, ℕ, take, true}
use Rattle.model_levels.specs.Spans.{is_between}
use Rattle.dense_close.specs.Narrowing.{IsListOf}
use Rattle.dense_close.specs.Waiting.{is_marked, stands_in}
use Rattle.dense_close.proofs.waking.wake_others.Given as goal

abbrev pub invariant-loop-c : goal.invariant-loop-c
invariant-loop-c l = record {
  listed : IsListOf l.task.problem.now l.task.span.first l.task.span.end l.list;
  kept : (k : ℕ) → is_marked l.initial.list k ≡ true → is_marked l.list k ≡ true;
  woken : (k : ℕ) → is_between l.task.span.first l.task.span.end k ≡ true → k ≢ l.own.0 → stands_in (take l.c-index l.c-items) k ≡ true → is_marked l.list k ≡ true;
}
