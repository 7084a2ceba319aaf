use Rattle.std.proofs.Common.{length, drop}
use Rattle.qc_model.specs.Demands.{demands}
use Rattle.joins.proofs.Sizing.{verdict_sized, stuck_sized, goal_sized}
use Rattle.joins.proofs.laws.verdicts_are_sized.Goals as goal

pub returns-clause-scope : goal.returns-clause-scope
returns-clause-scope c = verdict_sized

pub returns-clause-stuck : goal.returns-clause-stuck
returns-clause-stuck c = λ g i a v e. stuck_sized (drop i g.scopes) g (demands g i) a v e

pub returns-clause-goal : goal.returns-clause-goal
returns-clause-goal c = λ g holds a v e. goal_sized g holds (demands g (length g.scopes)) a v e
