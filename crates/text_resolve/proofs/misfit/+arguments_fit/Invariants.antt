use Rattle.std.proofs.Common.{length}
use Rattle.text_resolve.proofs.misfit.+arguments_fit.Given as goal

abbrev pub decreases-arguments_fit : goal.decreases-arguments_fit
decreases-arguments_fit l = length l.sorts.now
