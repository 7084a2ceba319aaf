use Rattle.dense_meaning.proofs.Staying.{plays_lost}
use Rattle.dense_meaning.proofs.Through.{empty_lost, lost_later}
use Rattle.dense_meaning.proofs.WholePlays.{closing_lost}
use Rattle.dense_meaning.proofs.laws.lost_by_plays.Goals as goal

pub returns-clause-none : goal.returns-clause-none
returns-clause-none c = λ g later n i d box free none. plays_lost g later n i box free none

pub returns-clause-empty : goal.returns-clause-empty
returns-clause-empty c = empty_lost

pub returns-clause-closing : goal.returns-clause-closing
returns-clause-closing c = closing_lost

pub returns-clause-after : goal.returns-clause-after
returns-clause-after c = lost_later
