use Rattle.qc_cascade.proofs.Placed.{stands_in_place}
use Rattle.qc_cascade.proofs.laws.horizons_stand_in_place.Goals as goal

pub returns : goal.returns
returns c = stands_in_place
