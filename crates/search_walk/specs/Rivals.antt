-- What the scope right above has reached, and which bounds of a scope it beats.
use Rattle.std.specs.Prelude.{◌≡◌, ⊤, ◌&&◌, ℕ, zero, suc, Bool, false, Option, Some, None, List, drop, ℤ}
use Rattle.qc_model.specs.Content.{Game}
use Rattle.qc_model.specs.Demands.{demands}
use Rattle.qc_model.specs.ExistsVerdict.{beats}
use Rattle.qc_model.specs.Verdict.{Seen}
use Rattle.joins.specs.Columns.{first_sense}
use Rattle.joins.specs.Joins.{StandsAt}
use Rattle.joins.specs.Verdicts.{wishes_at}
use Rattle.joins.specs.declared.joins.Joins.{Joins}
use Rattle.search_parts.specs.Beaten.{firsts, is_beaten}
use Rattle.search_parts.specs.Settled.{beats_none}
use Rattle.search_parts.specs.Bounded.{is_bounded}
use Rattle.search_walk.specs.declared.rival.Rival.{Rival}

-- what the scope right above beats, where up is what was seen in its own tree
abbrev pub above_at : Game → ℕ → List Seen → ℤ → Bool
above_at g zero up = beats_none
above_at g (suc i) up = is_beaten (wishes_at g i) (firsts up)

abbrev pub StandsAbove : Joins → ℕ → List Seen → Type 0
StandsAbove joins zero up = ⊤
StandsAbove joins (suc i) up = StandsAt joins i up

abbrev pub beaten_by : Option Rival → ℤ → Bool
beaten_by None n = false
beaten_by (Some r) n = beats r.sense r.is_alone r.best n

-- which bounds of scope i the rival beats, where some branches alone give one
abbrev pub outdoes : Game → ℕ → Option Rival → ℤ → Bool
outdoes g i r n = is_bounded (drop i g.scopes) g (demands g i) && beaten_by r n

-- the rival counts by the sense of the list of scope i
abbrev pub IsRival : Game → ℕ → Option Rival → Type 0
IsRival g i None = ⊤
IsRival g i (Some r) = first_sense (demands g i) ≡ r.sense
