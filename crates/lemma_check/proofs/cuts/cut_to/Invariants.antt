use Rattle.std.proofs.Common.{length}
use Rattle.lemma_check.specs.Gaps.{IsCutting}
use Rattle.lemma_check.proofs.cuts.cut_to.Given as goal

abbrev pub invariant-loop-rest : goal.invariant-loop-rest
invariant-loop-rest l = IsCutting l.literals l.fn.remains l.before l.rest l.remains

abbrev pub decreases-loop-rest : goal.decreases-loop-rest
decreases-loop-rest l = length l.rest
