use Rattle.std.proofs.Common.{◌≡◌, ℕ, length, take, true}
use Rattle.dense_close.specs.Memory.{is_pending}
use Rattle.dense_close.specs.Waiting.{stands_in}
use Rattle.dense_close.proofs.memory.Memory.mark_all.Given as goal

abbrev pub invariant-loop-c : goal.invariant-loop-c
invariant-loop-c l = record {
  seen : l.self.seen ≡ l.initial.self.seen;
  count : length l.self.pending ≡ length l.initial.self.pending;
  kept : (k : ℕ) → is_pending l.initial.self k ≡ true → is_pending l.self k ≡ true;
  marked : (k : ℕ) → stands_in (take l.c-index l.rules) k ≡ true → is_pending l.self k ≡ true;
}
