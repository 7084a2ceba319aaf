use Rattle.std.proofs.Common.{◌≡◌, length, true}
use Rattle.std.specs.Prelude.{nat_lt}
use Rattle.dense_close.specs.Waiting.{MarkedWait, all_waiting}
use Rattle.dense_close.proofs.closer.clear.Given as goal

abbrev pub invariant-loop-c : goal.invariant-loop-c
invariant-loop-c l = record {
  waiting : MarkedWait l.list;
  inside : all_waiting (λ k. nat_lt k (length l.list.marks)) l.list ≡ true;
  count : length l.list.marks ≡ length l.initial.list.marks;
}

abbrev pub decreases-loop-c : goal.decreases-loop-c
decreases-loop-c l = length l.list.queue
