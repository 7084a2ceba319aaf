-- Where the constraints of the scopes from one on begin.
use Rattle.std.specs.Prelude.{◌≡◌, ◌<◌, ◌+◌, ℕ, false, Some, List, length, slice_get, slice_index}
use Rattle.qc_model.specs.Content.{Game, Rule}
use Rattle.dense_tree.specs.Alike.{is_from}

-- each constraint before this place is of a scope before i
abbrev pub IsStart : Game → ℕ → ℕ → Type 0
IsStart g i start = (k : ℕ) (c : Rule) → k < start → slice_get g.constraints k ≡ Some c → is_from i c ≡ false

-- such a place for each scope, and for the goal
pub record AreStarts (g : Game) (starts : List ℕ) : Type 0 where
  pub count : length starts ≡ length g.scopes + 1
  pub each : (i : ℕ) → i < length starts → IsStart g i (slice_index starts i)
