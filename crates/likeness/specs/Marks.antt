-- The last scope from which on each variable is looked at.
use Rattle.std.specs.Prelude.{◌≡◌, ◌<◌, ◌≤◌, ℕ, nat_le, Bool, ◌||◌, List, length, slice_index}
use Rattle.qc_model.specs.Content.{Game}
use Rattle.proof_alike.specs.Alike.{is_looked_at}

-- by these last scopes x is looked at from scope i on
abbrev pub reaches : List ℕ → ℕ → ℕ → Bool
reaches upto i x = nat_le i (slice_index upto x)

-- each variable is looked at from where it was, and from where it is added
pub record AddsMarks (added : ℕ → ℕ → Bool) (old new : List ℕ) : Type 0 where
  pub count : length new ≡ length old
  pub each : (i x : ℕ) → i ≤ 255 → x < length old → reaches new i x ≡ (reaches old i x || added i x)

-- each variable of the game is looked at from where it is by the game
pub record AreMarksOf (g : Game) (upto : List ℕ) : Type 0 where
  pub count : length upto ≡ length g.variables
  pub each : (i x : ℕ) → i ≤ 255 → x < length upto → reaches upto i x ≡ is_looked_at g i x
