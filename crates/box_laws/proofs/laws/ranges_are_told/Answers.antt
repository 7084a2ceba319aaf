use Rattle.box_laws.proofs.Emptying.{some_within, none_within, nothing_goes}
use Rattle.box_laws.proofs.Sides.{kept_box}
use Rattle.box_laws.proofs.laws.ranges_are_told.Goals as goal

pub returns-clause-some : goal.returns-clause-some
returns-clause-some c = some_within

pub returns-clause-none : goal.returns-clause-none
returns-clause-none c = none_within

pub returns-clause-stays : goal.returns-clause-stays
returns-clause-stays c = nothing_goes

pub returns-clause-between : goal.returns-clause-between
returns-clause-between c = kept_box
