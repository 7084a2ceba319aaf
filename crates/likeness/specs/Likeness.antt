-- What looks the same from a scope on: positions, boxes and lines; and what a node comes to where nothing is optimised.
use Rattle.std.specs.Prelude.{◌≡◌, ◌≤◌, ◌<◌, ℕ, Bool, true, false, not, ◌&&◌, List, [], ◌∷◌, slice_index_or, is_none, IsTrue, IsFalse, ℤ, pos}
use Rattle.std.specs.List.{list_all}
use Rattle.qc_model.specs.declared.problem.Scope.{Scope}
use Rattle.qc_model.specs.Content.{Game}
use Rattle.qc_model.specs.Domains.{Box, declared_box, values_left, has_empty, is_single}
use Rattle.qc_model.specs.Game.{before}
use Rattle.qc_model.specs.Verdict.{Verdict, lost, exact, at_most, unknown, is_none_of}
use Rattle.model_arguments.specs.Asked.{is_box_of}
use Rattle.proof_alike.specs.Alike.{is_looked_at}
use Rattle.likeness.specs.Seeing.{SeeAlike}
use Rattle.proof_tree.specs.Place.{position}
use Rattle.proof_tree.specs.declared.line.Line.{Line}
use Rattle.proof_tree.specs.declared.line.Line.TheVariants.{Horizon, Prune, Bound, Dot, Stuck, Goal, Empty, Barred, Next, Branch, Skip, Open, Range}

-- none of the scopes has a condition, so that nothing is optimised
abbrev pub ask_nothing : List Scope → Bool
ask_nothing ss = list_all (λ s. is_none s.condition) ss

-- a box of the game at scope i: each variable from there on has its declared values, each earlier one has one value left, and
-- each earlier one that is looked at from there on has the value that stands at its place; each constraint from there on sees
-- the same of the position as of these values
pub record IsLike (g : Game) (i : ℕ) (vs : List ℤ) (box : Box) : Type 0 where
  pub declared : IsTrue (is_box_of g box)
  pub full : IsFalse (has_empty box)
  pub fresh : (x : ℕ) → before g i ≤ x → values_left box x ≡ values_left (declared_box g) x
  pub single : (x : ℕ) → x < before g i → IsTrue (is_single (values_left box x))
  pub fixed : (x : ℕ) → x < before g i → IsTrue (is_looked_at g i x) → values_left box x ≡ slice_index_or vs x (pos 0) ∷ []
  pub seen : SeeAlike g i vs (position g i box)

-- both have the same value in the place of each variable before the scope that is looked at from it on, and each
-- constraint from there on sees the same of both
pub record SeenAlike (g : Game) (i : ℕ) (kept here : List ℤ) : Type 0 where
  pub same : (x : ℕ) → x < before g i → IsTrue (is_looked_at g i x) → slice_index_or kept x (pos 0) ≡ slice_index_or here x (pos 0)
  pub seen : SeeAlike g i kept here

-- what a node comes to that is decided where nothing is optimised
abbrev pub decided_as : Bool → Verdict
decided_as true = exact []
decided_as false = lost

abbrev pub is_decided_as : Bool → Verdict → Bool
is_decided_as won lost = not won
is_decided_as won (exact v) = won && is_none_of v
is_decided_as won (at_most p) = false
is_decided_as won unknown = false

-- lost, or exact where won
abbrev pub ends_as : Bool → Verdict → Bool
ends_as won lost = not won
ends_as won (exact v) = won
ends_as won (at_most p) = false
ends_as won unknown = false

-- a line that removes values removes those of a variable that is looked at from scope i on
abbrev pub line_looks : Game → ℕ → Line → Bool
line_looks g i (Horizon k) = true
line_looks g i (Prune x low high c) = is_looked_at g i x.0
line_looks g i (Bound x low high) = true
line_looks g i Dot = true
line_looks g i Stuck = true
line_looks g i Goal = true
line_looks g i Empty = true
line_looks g i Barred = true
line_looks g i Next = true
line_looks g i (Branch x) = true
line_looks g i Skip = true
line_looks g i Open = true
line_looks g i (Range high) = true
