use Rattle.dense_meaning.proofs.AfterScopes.{enter_lost, enter_held}
use Rattle.dense_meaning.proofs.FullBoxes.{full_values}
use Rattle.dense_meaning.proofs.laws.lost_parts_are_entered.Goals as goal

pub returns-clause-lost : goal.returns-clause-lost
returns-clause-lost c = enter_lost

pub returns-clause-held : goal.returns-clause-held
returns-clause-held c = enter_held

pub returns-clause-values : goal.returns-clause-values
returns-clause-values c = full_values
