-- Values of a tracked variable that are given up.
use Rattle.std.specs.Prelude.{◌≡◌, ℕ, Option, None, Some, List, [], ◌∷◌, ◌++◌, IsTrue, ℤ}
use Rattle.qc_model.specs.declared.problem.Condition.{Condition}
use Rattle.qc_model.specs.declared.problem.Scope.{Scope}
use Rattle.qc_model.specs.declared.problem.Sense.{Sense}
use Rattle.qc_model.specs.declared.problem.VarId.{VarId}
use Rattle.qc_model.specs.Content.{Game}
use Rattle.qc_model.specs.Domains.{Box, values_left, values_within, is_none_left, has_empty}
use Rattle.proof_tree.specs.declared.tree.Step.{Step}
use Rattle.proof_tree.specs.declared.tree.Step.TheVariants.{Bound}
use Rattle.proof_tree.specs.InPlace.{steps_in_place}
use Rattle.proof_tree.specs.Place.{Tracked, tracked_variable, list_after}
use Rattle.proof_tree.specs.Steps.{after_step, best_value, step_marks}
use Rattle.proof_tree.specs.Text.{step_fits}
use Rattle.search_box.specs.declared.bounding.Bounded.{Bounded}

-- the variable, and how it is optimised
abbrev pub tracked_as : Sense → VarId → Tracked
tracked_as s x = record { sense = s; variable = x.0 }

-- a bound was appended: it leads from the box to what is left, is in place as a step of each scope's own tree in which x is
-- tracked so, has the best value that goes as its mark, and fits the text
pub record IsBounded (s : Sense) (x : VarId) (low high : ℤ) (box left : Box) (old new : List Step) (b : Bounded) : Type 0 where
  pub appended : new ≡ old ++ Bound x low high ∷ []
  pub reached : left ≡ after_step (Bound x low high) box
  pub placed : (g : Game) (later : List Scope) (i : ℕ) (d : List Condition) → tracked_variable g later i (list_after g later d) ≡ Some (tracked_as s x) →
      IsTrue (steps_in_place g later i d (Bound x low high ∷ []) box)
  pub marked : step_marks (Some (tracked_as s x)) (Bound x low high ∷ []) box ≡ b.best ∷ []
  pub fits : IsTrue (step_fits (Bound x low high))
  pub best : b.best ≡ best_value s (values_within low high (values_left box x.0))
  pub emptied : b.is_empty ≡ has_empty left

-- no value is to go, and none went
pub record IsUnbounded (x : VarId) (low high : ℤ) (box left : Box) (old new : List Step) : Type 0 where
  pub none : IsTrue (is_none_left (values_within low high (values_left box x.0)))
  pub appended : new ≡ old
  pub reached : left ≡ box

abbrev pub BoundAnswers : Sense → VarId → ℤ → ℤ → Box → Box → List Step → List Step → Option Bounded → Type 0
BoundAnswers s x low high box left old new None = IsUnbounded x low high box left old new
BoundAnswers s x low high box left old new (Some b) = IsBounded s x low high box left old new b
