-- Variables that are wished for, and tables of them.
use Rattle.std.specs.Prelude.{◌≡◌, ◌<◌, ℕ, Option, Some, None, List, [], ◌∷◌, length, drop, slice_get, ℤ}
use Rattle.qc_model.specs.Content.{Game}
use Rattle.qc_model.specs.Demands.{demands}
use Rattle.proof_tree.specs.Place.{Tracked, list_after, tracked_variable}
use Rattle.dense_box.specs.declared.wish.Wish.{Wish}
use Rattle.dense_box.specs.declared.wishes.Wishes.{Wishes}

abbrev pub told : Option Wish → Option Tracked
told None = None
told (Some w) = Some (record { sense = w.sense; variable = w.variable.0 })

abbrev pub told_in : Option (Option Wish) → Option Tracked
told_in None = None
told_in (Some o) = told o

-- the variable that scope i's own tree may bound
abbrev pub tracked_at : Game → ℕ → Option Tracked
tracked_at g i = tracked_variable g (drop i g.scopes) i (list_after g (drop i g.scopes) (demands g i))

-- the table tells it of each scope
pub record TracksAll (g : Game) (b : Wishes) : Type 0 where
  pub count : length b.wishes.items ≡ length g.scopes
  pub each : (k : ℕ) → k < length g.scopes → told_in (slice_get b.wishes.items k) ≡ tracked_at g k

-- no value, or one
abbrev pub listed : Option ℤ → List ℤ
listed None = []
listed (Some v) = v ∷ []
