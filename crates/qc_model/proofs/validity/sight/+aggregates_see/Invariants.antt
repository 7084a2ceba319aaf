use Rattle.std.proofs.Common.{length}
use Rattle.qc_model.proofs.validity.sight.+aggregates_see.Given as goal

abbrev pub decreases-aggregates_see : goal.decreases-aggregates_see
decreases-aggregates_see l = length l.aggregates.now
