use Rattle.dense_meaning.proofs.AfterScopes.{postpone, postpone_lost}
use Rattle.dense_meaning.proofs.laws.choices_may_wait.Goals as goal

pub returns-clause-same_list : goal.returns-clause-same_list
returns-clause-same_list c = postpone

pub returns-clause-lost : goal.returns-clause-lost
returns-clause-lost c = postpone_lost
