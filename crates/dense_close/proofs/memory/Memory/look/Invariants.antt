use Rattle.std.proofs.Common.{◌≤◌, ◌-◌, length}
use Rattle.dense_close.specs.Memory.{IsAsSeen}
use Rattle.dense_close.proofs.memory.Memory.look.Given as goal

abbrev pub invariant-loop-x : goal.invariant-loop-x
invariant-loop-x l = record {
  inside : l.x ≤ length l.task.problem.now.variables;
  seen : IsAsSeen l.x l.task.taking l.task.problem.now l.self l.store.box;
}

abbrev pub decreases-loop-x : goal.decreases-loop-x
decreases-loop-x l = length l.task.problem.now.variables - l.x
