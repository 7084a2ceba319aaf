use Rattle.std.proofs.Common.{◌≡◌, length}
use Rattle.qc_model.specs.Domains.{is_ascending}
use Rattle.model_evaluation.proofs.differing.ascends.Given as goal

abbrev pub invariant-loop-number : goal.invariant-loop-number
invariant-loop-number l = is_ascending l.rest ≡ is_ascending l.numbers

abbrev pub decreases-loop-number : goal.decreases-loop-number
decreases-loop-number l = length l.rest
