use Rattle.model_table.proofs.Reached.{crowds_repeat}
use Rattle.model_table.proofs.CrowdEnds.{crowd_of_ends, crowd_has_ends}
use Rattle.model_table.proofs.laws.crowds.Goals as goal

pub returns-clause-by_ends : goal.returns-clause-by_ends
returns-clause-by_ends c = λ ds. (crowd_has_ends ds, λ e. crowd_of_ends ds e.0 e.1 e.2)

pub returns-clause-repeat : goal.returns-clause-repeat
returns-clause-repeat c = crowds_repeat
