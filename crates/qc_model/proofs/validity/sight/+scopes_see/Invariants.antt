use Rattle.std.proofs.Common.{length}
use Rattle.qc_model.proofs.validity.sight.+scopes_see.Given as goal

abbrev pub decreases-scopes_see : goal.decreases-scopes_see
decreases-scopes_see l = length l.later.now
