use Rattle.std.proofs.Common.{◌≡◌, drop}
use Rattle.lemma_list.specs.Sums.{are_linear}
use Rattle.lemma_reasons.proofs.checked.are_linear.Given as goal

abbrev pub invariant-loop-sum : goal.invariant-loop-sum
invariant-loop-sum l = are_linear l.problem (drop l.sum-index l.sums) ≡ are_linear l.problem l.sums
