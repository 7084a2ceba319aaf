use Rattle.std.proofs.Common.{◌≤◌}
use Rattle.fd_store.specs.Held.{trail_len, past_box}
use Rattle.dense_close.specs.Memory.{IsSeenOf, IsUnchanged}
use Rattle.dense_close.proofs.memory.Memory.look_again.Given as goal

abbrev pub invariant-loop-n : goal.invariant-loop-n
invariant-loop-n l = record {
  inside : l.n ≤ trail_len l.store;
  seen : IsSeenOf (IsUnchanged l.task.problem.now (past_box l.store l.n) l.store.box) l.task.taking l.task.problem.now l.self l.store.box;
}
