use Rattle.std.proofs.Common.{length}
use Rattle.qc_model.proofs.validity.sight.+is_visible.Given as goal

abbrev pub decreases-is_visible : goal.decreases-is_visible
decreases-is_visible l = length l.later.now
