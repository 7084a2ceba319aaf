use Rattle.std.proofs.Common.{length}
use Rattle.qc_model.proofs.validity.names.+aggregates_differ.Given as goal

abbrev pub decreases-aggregates_differ : goal.decreases-aggregates_differ
decreases-aggregates_differ l = length l.aggregates.now
