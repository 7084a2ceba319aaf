use Rattle.dense_meaning.proofs.PlansLie.{restrict}
use Rattle.dense_meaning.proofs.Cited.{cite}
use Rattle.dense_meaning.proofs.laws.boxes_may_shrink.Goals as goal

pub returns-clause-smaller : goal.returns-clause-smaller
returns-clause-smaller c = restrict

pub returns-clause-cited : goal.returns-clause-cited
returns-clause-cited c = cite
