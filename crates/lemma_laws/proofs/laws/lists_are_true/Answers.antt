use Rattle.lemma_laws.proofs.InPlace.{true_won, false_lost}
use Rattle.lemma_laws.proofs.laws.lists_are_true.Goals as goal

pub returns-clause-won : goal.returns-clause-won
returns-clause-won c = true_won

pub returns-clause-lost : goal.returns-clause-lost
returns-clause-lost c = false_lost
