-- What holds of the values left on the way down a search.
use Rattle.std.specs.Prelude.{◌≡◌, ◌≤◌, ℕ, Some, List, slice_get, IsTrue, IsFalse}
use Rattle.qc_model.specs.Content.{Game}
use Rattle.qc_model.specs.Domains.{Box, has_empty, is_sub_box}
use Rattle.model_arguments.specs.Asked.{is_box_of}
use Rattle.fd_store.specs.Held.{Held, Follows, trail_len, past_box}
use Rattle.fd_store.specs.declared.store.Mark.{Mark}

-- values of the game's variables are left, and some to each
pub record IsWhole (g : Game) (box : Box) : Type 0 where
  pub declared : IsTrue (is_box_of g box)
  pub full : IsFalse (has_empty box)

-- the box that undoing down to the mark gives is such a box
pub record IsMarked (g : Game) (s : Held) (m : Mark) : Type 0 where
  pub at : m.at ≤ trail_len s
  pub whole : IsWhole g (past_box s m.at)

-- so it is at each mark, marks don't fall, and the box at hand is one as well
pub record IsSteady (g : Game) (s : Held) (ms : List Mark) : Type 0 where
  pub whole : IsWhole g s.box
  pub each : (k : ℕ) (m : Mark) → slice_get ms k ≡ Some m → IsMarked g s m
  pub rises : (j k : ℕ) (m n : Mark) → j ≤ k → slice_get ms j ≡ Some m → slice_get ms k ≡ Some n → m.at ≤ n.at

-- t comes after s, with no more values
pub record GoesOn (s t : Held) : Type 0 where
  pub follows : Follows s t
  pub within : (large : Box) → IsTrue (is_sub_box s.box large) → IsTrue (is_sub_box t.box large)
