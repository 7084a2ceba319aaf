use Rattle.dense_meaning.proofs.Strict.{strict_says, strict_lies, says_of_all}
use Rattle.dense_meaning.proofs.EndsOfPlay.{all_says}
use Rattle.dense_meaning.proofs.Declared.{lost_in_all, lost_declared, won_is_won}
use Rattle.dense_meaning.proofs.laws.verdicts_tell_of_positions.Goals as goal

pub returns-clause-strict : goal.returns-clause-strict
returns-clause-strict c = strict_says

pub returns-clause-strict_lies : goal.returns-clause-strict_lies
returns-clause-strict_lies c = strict_lies

pub returns-clause-less : goal.returns-clause-less
returns-clause-less c = all_says

pub returns-clause-all : goal.returns-clause-all
returns-clause-all c = says_of_all

pub returns-clause-lost : goal.returns-clause-lost
returns-clause-lost c = lost_in_all

pub returns-clause-declared : goal.returns-clause-declared
returns-clause-declared c = lost_declared

pub returns-clause-exact : goal.returns-clause-exact
returns-clause-exact c = won_is_won
