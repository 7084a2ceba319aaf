-- Closing a box for the constraints in force at a scope.
use Rattle.std.specs.Prelude.{◌≡◌, ℕ, Option, List, [], ◌++◌, drop, length, IsTrue, IsFalse}
use Rattle.std.specs.List.{list_all}
use Rattle.qc_model.specs.declared.problem.Condition.{Condition}
use Rattle.qc_model.specs.declared.problem.VarId.{VarId}
use Rattle.qc_model.specs.Block.{constraints_in_force}
use Rattle.qc_model.specs.Closed.{is_closed}
use Rattle.qc_model.specs.Content.{Game}
use Rattle.qc_model.specs.Domains.{Box, values_left, has_empty, is_sub_box}
use Rattle.model_arguments.specs.Asked.{is_box_of}
use Rattle.proof_tree.specs.declared.tree.Step.{Step}
use Rattle.proof_tree.specs.InPlace.{steps_in_place}
use Rattle.proof_tree.specs.Place.{Tracked}
use Rattle.proof_tree.specs.Steps.{is_prune, after_steps, step_marks}
use Rattle.proof_tree.specs.Text.{step_fits}
use Rattle.prop_engine.specs.declared.answer.Closed.{Closed}
use Rattle.prop_engine.specs.declared.answer.Closed.TheVariants.{Open, Empty}
use Rattle.prop_engine.specs.Watching.{names}

-- removals were appended: they lead from the box to what is left, are in place as steps of scope i's own tree, whatever
-- list the scope has, have no marks, and fit the text
pub record IsPruned (g : Game) (i : ℕ) (box left : Box) (old new : List Step) : Type 0 where
  pub more : List Step
  pub appended : new ≡ old ++ more
  pub reached : left ≡ after_steps more box
  pub placed : (d : List Condition) → IsTrue (steps_in_place g (drop i g.scopes) i d more box)
  pub unmarked : (t : Option Tracked) → step_marks t more box ≡ []
  pub prunes : IsTrue (list_all is_prune more)
  pub fits : IsTrue (list_all step_fits more)

-- no domain is empty, and no constraint in force at scope i refutes an end of a variable of its own
abbrev pub IsClosedAt : Game → ℕ → Box → Type 0
IsClosedAt g i box = IsTrue (is_closed (constraints_in_force g (drop i g.scopes) i) box)

-- what closing answers, by the box that it leaves
abbrev pub IsClosingAt : Closed → Game → ℕ → Box → Type 0
IsClosingAt Open g i box = IsClosedAt g i box
IsClosingAt Empty g i box = IsTrue (has_empty box)

-- some box of declared values was closed so, and since then only the named variables have lost values
pub record WasClosed (g : Game) (i : ℕ) (changed : List VarId) (box : Box) : Type 0 where
  pub earlier : Box
  pub declared : IsTrue (is_box_of g earlier)
  pub closed : IsClosedAt g i earlier
  pub count : length box ≡ length earlier
  pub fewer : (large : Box) → IsTrue (is_sub_box earlier large) → IsTrue (is_sub_box box large)
  pub others : (x : ℕ) → IsFalse (names changed x) → values_left box x ≡ values_left earlier x
