use Rattle.dense_quiet.specs.Clauses.{FoundTells}
use Rattle.dense_quiet.proofs.clauses.with_array.Given as goal

abbrev pub invariant-loop-k : goal.invariant-loop-k
invariant-loop-k l = FoundTells l.seen l.rule l.store.box
