-- Boxes that were saved, as places of a store's trail.
use Rattle.std.specs.Prelude.{◌≡◌, ◌≤◌, ℕ, true, false, Some, List, slice_get}
use Rattle.qc_model.specs.Content.{Game}
use Rattle.qc_model.specs.Domains.{has_empty}
use Rattle.model_arguments.specs.Asked.{is_box_of}
use Rattle.fd_store.specs.Held.{Held, trail_len, past_box}
use Rattle.fd_store.specs.declared.store.Mark.{Mark}
use Rattle.dense_tree.specs.Tree.{Given}
use Rattle.dense_box.specs.declared.freedom.Freedom.{Freedom}
use Rattle.dense_box.specs.Standing.{StandsFor}

-- undoing down to this place gives a box of the game in which each variable has a value
pub record IsSaved (g : Game) (s : Held) (m : Mark) : Type 0 where
  pub at : m.at ≤ trail_len s
  pub declared : is_box_of g (past_box s m.at) ≡ true
  pub full : has_empty (past_box s m.at) ≡ false

-- so does undoing down to each of these places, and later ones lie further on
pub record AreSaved (g : Game) (s : Held) (ms : List Mark) : Type 0 where
  pub each : (k : ℕ) (m : Mark) → slice_get ms k ≡ Some m → IsSaved g s m
  pub rises : (j k : ℕ) (l m : Mark) → j ≤ k → slice_get ms j ≡ Some l → slice_get ms k ≡ Some m → l.at ≤ m.at

-- what is known of the scopes is so with some tuples given
pub record KnowsScopes (g : Game) (f : Freedom) : Type 0 where
  pub given : List Given
  pub stands : StandsFor g given f
