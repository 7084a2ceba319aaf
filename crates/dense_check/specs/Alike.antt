-- When a node comes to what a named node came to, by what is kept of that.
use Rattle.std.specs.Prelude.{Bool, false, not, ◌&&◌, ◌||◌, ◌==◌, Option, Some, None, is_some, is_none}
use Rattle.qc_model.specs.Content.{Game}
use Rattle.dense_tree.specs.Alike.{are_alike, same_horizon}
use Rattle.dense_tree.specs.Place.{Place}
use Rattle.dense_tree.specs.Read.{Known}
use Rattle.dense_nest.specs.declared.place.Entry.{Entry}
use Rattle.dense_nest.specs.declared.place.Spot.{Spot}
use Rattle.dense_nest.specs.declared.told.Named.{Named}
use Rattle.dense_nest.specs.declared.told.Told.{Told}

-- a node that begins there is of the same scope as e, below the same horizon, and tells of all positions
abbrev pub is_like : Entry → Spot → Bool
is_like e q = (e.spot.number == q.number) && same_horizon e.horizon q.horizon && (not q.loose || is_none q.horizon)

-- where a named node begins that has ended
abbrev pub spot_told : Spot → Option Told → Option Spot
spot_told q None = None
spot_told q (Some t) = Some q

abbrev pub ended_spot : Option Named → Option Spot
ended_spot None = None
ended_spot (Some n) = spot_told n.spot n.told

-- a named node that is there has ended, and a node at p comes to what it came to
abbrev pub is_alike_known : Game → Place → Option Known → Bool
is_alike_known g p None = false
is_alike_known g p (Some k) = is_some k.verdict && are_alike g p k.place
