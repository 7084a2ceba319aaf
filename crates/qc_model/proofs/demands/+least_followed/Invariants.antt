use Rattle.std.proofs.Common.{length}
use Rattle.qc_model.proofs.demands.+least_followed.Given as goal

abbrev pub decreases-least_followed : goal.decreases-least_followed
decreases-least_followed l = length l.entries.now
