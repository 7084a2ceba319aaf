use Rattle.dense_quiet.specs.declared.taking.Taking.{Taking}
use Rattle.dense_close.specs.Memory.{AreMemories}
use Rattle.dense_close.proofs.memories.Memories.add_all.Given as goal

abbrev pub invariant-loop : goal.invariant-loop
invariant-loop l = (t : Taking) → AreMemories t l.problem l.self
