use Rattle.dense_alike.proofs.LaidOut.{IsLaid}
use Rattle.dense_alike.proofs.laying.lay.Given as goal

abbrev pub invariant-loop-k : goal.invariant-loop-k
invariant-loop-k l = IsLaid l.problem l.fn.remains l.values l.k l.remains
