-- The variable that a scope's own tree may bound, as a table tells it, and what a bound shows.
use Rattle.std.specs.Prelude.{◌≡◌, ◌<◌, ℕ, true, Option, Some, None, [], ◌∷◌, length, drop, slice_get, ℤ}
use Rattle.qc_model.specs.declared.problem.VarId.{VarId}
use Rattle.qc_model.specs.Content.{Game}
use Rattle.qc_model.specs.Demands.{demands}
use Rattle.qc_model.specs.Domains.{Box}
use Rattle.qc_model.specs.Verdict.{seen_bound}
use Rattle.proof_tree.specs.declared.tree.Step.TheVariants.{Bound as BoundStep}
use Rattle.proof_tree.specs.Place.{Tracked, list_after, tracked_variable}
use Rattle.check_lines.specs.declared.bounds.Wish.{Wish}
use Rattle.check_lines.specs.declared.bounds.Bounds.{Bounds}
use Rattle.check_lines.specs.State.{is_own_step}
use Rattle.check_lines.specs.Ledger.{place_at, marks_of}

abbrev pub told : Option Wish → Option Tracked
told None = None
told (Some w) = Some (record { sense = w.sense; variable = w.variable.0 })

abbrev pub told_in : Option (Option Wish) → Option Tracked
told_in None = None
told_in (Some o) = told o

-- the variable that scope i's own tree may bound
abbrev pub tracked_at : Game → ℕ → Option Tracked
tracked_at g i = tracked_variable g (drop i g.scopes) i (list_after g (drop i g.scopes) (demands g i))

-- the table tells it of each scope
pub record TracksAll (g : Game) (b : Bounds) : Type 0 where
  pub count : length b.wishes.items ≡ length g.scopes
  pub each : (k : ℕ) → k < length g.scopes → told_in (slice_get b.wishes.items k) ≡ tracked_at g k

-- a bound of scope i is legal, and its mark is m
pub record BoundShows (g : Game) (i : ℕ) (x : VarId) (lo hi : ℤ) (box : Box) (m : ℤ) : Type 0 where
  pub legal : (h : Option ℕ) → is_own_step g (place_at g i h) (BoundStep x lo hi) box ≡ true
  pub marks : (h : Option ℕ) → marks_of g (place_at g i h) (BoundStep x lo hi) box ≡ seen_bound m ∷ []
