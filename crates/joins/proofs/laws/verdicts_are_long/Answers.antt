use Rattle.std.proofs.Common.{length, drop}
use Rattle.qc_model.specs.Demands.{demands}
use Rattle.joins.proofs.Lengths.{verdict_long, stuck_long, goal_long}
use Rattle.joins.proofs.laws.verdicts_are_long.Goals as goal

pub returns-clause-scope : goal.returns-clause-scope
returns-clause-scope c = verdict_long

pub returns-clause-stuck : goal.returns-clause-stuck
returns-clause-stuck c = λ g i a. stuck_long (drop i g.scopes) g (demands g i) a

pub returns-clause-goal : goal.returns-clause-goal
returns-clause-goal c = λ g holds a. goal_long g holds (demands g (length g.scopes)) a
