-- The last scope, and one, from which on a variable is read.
use Rattle.std.specs.Prelude.{◌≡◌, ◌<◌, ◌≤◌, ℕ, nat_lt, Bool, ◌&&◌, ◌||◌, List, length, slice_index}
use Rattle.std.specs.List.{list_any}
use Rattle.qc_model.specs.Arguments.{variables_of}
use Rattle.qc_model.specs.Content.{Game, Rule}
use Rattle.proof_alike.specs.Alike.{is_among}
use Rattle.dense_tree.specs.Alike.{is_from}

-- the constraint is of a scope from i on, or of the goal, and has x
abbrev pub has_from : ℕ → ℕ → Rule → Bool
has_from i x c = is_from i c && is_among (variables_of c.args) x

-- by these numbers x is marked from scope i on
abbrev pub is_marked : List ℕ → ℕ → ℕ → Bool
is_marked stops i x = nat_lt i (slice_index stops x)

-- each variable is marked from where it was, and from where it is added
pub record AddsMarks (added : ℕ → ℕ → Bool) (old new : List ℕ) : Type 0 where
  pub count : length new ≡ length old
  pub each : (i x : ℕ) → i ≤ 254 → x < length old → is_marked new i x ≡ (is_marked old i x || added i x)

-- each variable of the game is marked from where some constraint has it
pub record AreMarksOf (g : Game) (stops : List ℕ) : Type 0 where
  pub count : length stops ≡ length g.variables
  pub each : (i x : ℕ) → i ≤ 254 → x < length g.variables → is_marked stops i x ≡ list_any (has_from i x) g.constraints
