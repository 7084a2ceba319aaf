use Rattle.dense_alike.specs.Starts.{IsStart}
use Rattle.dense_alike.proofs.starts.start_from.Given as goal

abbrev pub invariant-loop-k : goal.invariant-loop-k
invariant-loop-k l = IsStart l.problem l.i l.k
