use Rattle.dense_close.specs.Memory.{IsAsSeen}
use Rattle.dense_close.proofs.memory.Memory.next_unseen.Given as goal

abbrev pub invariant-loop-x : goal.invariant-loop-x
invariant-loop-x l = IsAsSeen l.x l.task.taking l.task.problem.now l.self l.store.box
