use Rattle.std.proofs.Common.{length}
use Rattle.qc_model.proofs.validity.arguments.+are_of_sorts.Given as goal

abbrev pub decreases-are_of_sorts : goal.decreases-are_of_sorts
decreases-are_of_sorts l = length l.sorts.now
