-- What a stage knows is known in one way.
use Rattle.std.specs.Prelude.{ℕ, Option, Some, None}
use Rattle.std.proofs.Props.{props}
use Rattle.qc_model.specs.Content.{Game}
use Rattle.search_walk.specs.declared.aim.Aim.{Aim}
use Rattle.search_walk.specs.Aims.{IsAimed}
use Rattle.search_walk.specs.Rivals.{IsRival}
use Rattle.search_walk.specs.declared.rival.Rival.{Rival}

pub aimed_prop : (g : Game) (i : ℕ) (a : Option Aim) → IsProp (IsAimed g i a)
aimed_prop g i None = hlevel props
aimed_prop g i (Some a) = hlevel props

pub rival_prop : (g : Game) (i : ℕ) (r : Option Rival) → IsProp (IsRival g i r)
rival_prop g i None = hlevel props
rival_prop g i (Some r) = hlevel props
