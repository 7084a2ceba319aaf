use Rattle.std.proofs.Common.{◌≡◌, ◌⊎◌, ℕ, length, false, true}
use Rattle.model_levels.specs.Spans.{is_between}
use Rattle.dense_close.specs.Memory.{is_pending}
use Rattle.dense_close.proofs.memory.Memory.pass_all.Given as goal

abbrev pub invariant-loop-k : goal.invariant-loop-k
invariant-loop-k l = record {
  seen : l.self.seen ≡ l.initial.self.seen;
  count : length l.self.pending ≡ length l.initial.self.pending;
  flags : (k : ℕ) → is_pending l.self k ≡ false → (is_between l.task.span.first l.task.span.end k ≡ true) ⊎ (is_pending l.initial.self k ≡ false);
}
