use Rattle.dense_meaning.proofs.Targets.{target_left, owner_reaches, reaches_at_last}
use Rattle.dense_meaning.proofs.laws.targets_are_bounded.Goals as goal

pub returns-clause-left : goal.returns-clause-left
returns-clause-left c = target_left

pub returns-clause-reached : goal.returns-clause-reached
returns-clause-reached c = owner_reaches

pub returns-clause-at_last : goal.returns-clause-at_last
returns-clause-at_last c = reaches_at_last
