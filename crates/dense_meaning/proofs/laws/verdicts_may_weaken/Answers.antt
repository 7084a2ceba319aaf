use Rattle.dense_meaning.proofs.Targets.{weaken, lost_bounded}
use Rattle.dense_meaning.proofs.AfterScopes.{best_bound}
use Rattle.dense_meaning.proofs.laws.verdicts_may_weaken.Goals as goal

pub returns-clause-bounds : goal.returns-clause-bounds
returns-clause-bounds c = weaken

pub returns-clause-best : goal.returns-clause-best
returns-clause-best c = best_bound

pub returns-clause-lost : goal.returns-clause-lost
returns-clause-lost c = lost_bounded
