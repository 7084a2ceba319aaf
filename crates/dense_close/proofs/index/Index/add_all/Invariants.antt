use Rattle.dense_close.specs.Index.{IsIndexTo}
use Rattle.dense_close.proofs.index.Index.add_all.Given as goal

abbrev pub invariant-loop-k : goal.invariant-loop-k
invariant-loop-k l = IsIndexTo l.k l.problem l.self
