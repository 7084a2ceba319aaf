use Rattle.std.proofs.Common.{◌≡◌, ◌<◌, ℕ, true}
use Rattle.model_levels.specs.Spans.{is_between}
use Rattle.dense_close.specs.Memory.{is_pending}
use Rattle.dense_close.specs.Narrowing.{IsListOf}
use Rattle.dense_close.specs.Waiting.{is_marked}
use Rattle.dense_close.proofs.waking.wake_pending.Given as goal

abbrev pub invariant-loop-k : goal.invariant-loop-k
invariant-loop-k l = record {
  listed : IsListOf l.task.problem.now l.task.span.first l.task.span.end l.list;
  woken : (k : ℕ) → is_between l.task.span.first l.task.span.end k ≡ true → is_pending l.memory k ≡ true → k < l.k → is_marked l.list k ≡ true;
}
