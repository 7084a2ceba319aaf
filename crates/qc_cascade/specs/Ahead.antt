-- Joint stores: what the constraints of several scopes in a row leave together, and the first that is empty.
use Rattle.std.specs.Prelude.{◌≡◌, ◌<◌, ◌≤◌, ℕ, suc, Bool, Option, Some, None, List, [], length, slice_get, IsTrue}
use Rattle.qc_model.specs.declared.problem.ScopeId.{ScopeId}
use Rattle.qc_model.specs.Block.{constraints_within}
use Rattle.qc_model.specs.Closed.{is_closed}
use Rattle.qc_model.specs.Content.{Game, Rule}
use Rattle.qc_model.specs.Domains.{Box, has_empty, is_sub_box}
use Rattle.proof_tree.specs.declared.tree.Step.{Step}
use Rattle.proof_tree.specs.Steps.{after_steps}
use Rattle.model_levels.specs.Spans.{is_number_within}
use Rattle.prop_base.specs.Pruning.{are_pruned_by}

-- a box within this one is closed for the constraints of the scopes, or the goal, from i to k
pub record HasClosed (g : Game) (i k : ℕ) (box : Box) : Type 0 where
  pub left : Box
  pub inside : IsTrue (is_sub_box left box)
  pub closed : IsTrue (is_closed (constraints_within g i (suc k)) left)

-- steps by constraints of the scopes, or the goal, from i to k empty a domain of this box, and the joint stores before
-- that of k are closed without an empty domain
pub record IsHorizon (g : Game) (i k : ℕ) (box : Box) (steps : List Step) : Type 0 where
  pub ahead : i ≤ k
  pub to : k ≤ length g.scopes
  pub pruned : IsTrue (are_pruned_by (is_number_within g i (suc k)) g steps box)
  pub emptied : IsTrue (has_empty (after_steps steps box))
  pub nearer : (j : ℕ) → i ≤ j → j < k → HasClosed g i j box

-- so are all joint stores before the number stop, and there is no step
pub record IsOpen (g : Game) (i stop : ℕ) (box : Box) (steps : List Step) : Type 0 where
  pub none : steps ≡ []
  pub each : (j : ℕ) → i ≤ j → j < stop → HasClosed g i j box

-- what is found from scope i to the number before stop, where this box is left
abbrev pub IsEntered : Game → ℕ → ℕ → Box → Option ScopeId → List Step → Type 0
IsEntered g i stop box None steps = IsOpen g i stop box steps
IsEntered g i stop box (Some k) steps = (k.0 < stop) × IsHorizon g i k.0 box steps

-- each constraint passes
abbrev pub EachKnown : Game → (Rule → Bool) → Type 0
EachKnown g p = (k : ℕ) (c : Rule) → slice_get g.constraints k ≡ Some c → IsTrue (p c)
