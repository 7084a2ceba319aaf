use Rattle.dense_meaning.proofs.PlansLie.{split}
use Rattle.dense_meaning.proofs.AfterScopes.{own_split}
use Rattle.dense_meaning.proofs.laws.values_may_be_split.Goals as goal

pub returns-clause-earlier : goal.returns-clause-earlier
returns-clause-earlier c = split

pub returns-clause-own : goal.returns-clause-own
returns-clause-own c = own_split
