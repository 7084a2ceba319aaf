use Rattle.joins.proofs.Sizing.{sizes_small, leaf_fits}
use Rattle.joins.proofs.laws.leaves_fit.Goals as goal

pub returns-clause-small : goal.returns-clause-small
returns-clause-small c = sizes_small

pub returns-clause-fit : goal.returns-clause-fit
returns-clause-fit c = leaf_fits
