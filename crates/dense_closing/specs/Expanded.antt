-- The tree with removals that a dense tree stands for, and what it proves by that.
use Rattle.std.specs.Prelude.{ℕ, suc, Bool, Option, Some, None, List, [], ◌∷◌, ◌++◌, ℤ}
use Rattle.qc_model.specs.declared.problem.ScopeId.{ScopeId}
use Rattle.qc_model.specs.declared.problem.Scope.{Scope}
use Rattle.qc_model.specs.Content.{Game}
use Rattle.qc_model.specs.Domains.{Values, Box, declared_box, values_left}
use Rattle.qc_model.specs.Block.{force_stop}
use Rattle.proof_tree.specs.declared.tree.Horizon.{Horizon}
use Rattle.proof_tree.specs.declared.tree.Outcome.{Outcome}
use Rattle.proof_tree.specs.declared.tree.Step.{Step}
use Rattle.proof_tree.specs.declared.tree.Step.TheVariants.{Bound}
use Rattle.proof_tree.specs.Tree.{Tree, tree, Body, stuck, goal, cases, Ending, empty, barred, next, branch, Branches, no_more, piece, Case, skip, left_open, go}
use Rattle.proof_tree.specs.Cover.{covered, uncovered, box_to}
use Rattle.proof_tree.specs.Place.{next_scopes}
use Rattle.proof_tree.specs.Proves.{proves}
use Rattle.proof_tree.specs.Steps.{after_step, after_steps}
use Rattle.dense_closing.specs.ClosingSteps.{closing_steps}
use Rattle.dense_closing.specs.Takes.{takes_all}
use Rattle.dense_closing.specs.Tree.{Line, close, bound, DenseTree, dense, DenseBody, dense_stuck, dense_goal, dense_cases, DenseEnding, dense_empty, dense_barred, dense_next, dense_branch, DenseBranches, dense_no_more, dense_piece, DenseCase, dense_skip, dense_left_open, dense_go}

-- the steps that lines stand for, by the constraints of the scopes from i to the one before stop
abbrev pub steps_of : Game → ℕ → ℕ → List Line → Box → List Step
steps_of g i stop [] box = []
steps_of g i stop (bound x low high ∷ ls) box = Bound x low high ∷ steps_of g i stop ls (after_step (Bound x low high) box)
steps_of g i stop (close ∷ ls) box = closing_steps takes_all g i stop box ++ steps_of g i stop ls (after_steps (closing_steps takes_all g i stop box) box)

-- an end that says that nothing is left closes as well
abbrev pub lines_to : List Line → DenseEnding → List Line
lines_to ls dense_empty = ls ++ (close ∷ [])
lines_to ls end = ls

-- the steps before an end in the own tree of scope i, the first of later
abbrev pub steps_to : Game → List Scope → ℕ → List Line → DenseEnding → Box → List Step
steps_to g later i ls end box = steps_of g i (force_stop later i) (lines_to ls end) box

-- a horizon stands for closing by the constraints of the scopes up to it
abbrev pub horizon_of : Game → ℕ → Option ScopeId → Box → Option Horizon
horizon_of g i None box = None
horizon_of g i (Some k) box = Some (record { scope = k; steps = closing_steps takes_all g i (suc k.0) box })

abbrev mutual
  pub expanded : Game → DenseTree → List Scope → ℕ → Box → Tree
  expanded g (dense k c) later i box = tree (horizon_of g i k box) (body_expanded g c later i box)

  pub body_expanded : Game → DenseBody → List Scope → ℕ → Box → Body
  body_expanded g dense_stuck later i box = stuck
  body_expanded g dense_goal later i box = goal
  body_expanded g (dense_cases ls end) later i box =
      cases (steps_to g later i ls end box) (ending_expanded g end later i (after_steps (steps_to g later i ls end box) box))

  pub ending_expanded : Game → DenseEnding → List Scope → ℕ → Box → Ending
  ending_expanded g dense_empty later i box = empty
  ending_expanded g dense_barred later i box = barred
  ending_expanded g (dense_next t) later i box = next (expanded g t (next_scopes later) (suc i) box)
  ending_expanded g (dense_branch x bs) later i box = branch x (branches_expanded g bs x.0 (values_left box x.0) later i box)

  -- vs are the values of x that no earlier case covers
  pub branches_expanded : Game → DenseBranches → ℕ → Values → List Scope → ℕ → Box → Branches
  branches_expanded g dense_no_more x vs later i box = no_more
  branches_expanded g (dense_piece upto c bs) x vs later i box =
      piece upto (case_expanded g c later i (box_to box x (covered upto vs))) (branches_expanded g bs x (uncovered upto vs) later i box)

  pub case_expanded : Game → DenseCase → List Scope → ℕ → Box → Case
  case_expanded g dense_skip later i box = skip
  case_expanded g dense_left_open later i box = left_open
  case_expanded g (dense_go ls end) later i box =
      go (steps_to g later i ls end box) (ending_expanded g end later i (after_steps (steps_to g later i ls end box) box))

abbrev pub root_expanded : Game → DenseTree → Tree
root_expanded g t = expanded g t g.scopes 0 (declared_box g)

-- a dense tree proves what the tree proves that it stands for
abbrev pub dense_proves : Game → Outcome → Option ℤ → DenseTree → Bool
dense_proves g outcome optimum t = proves g outcome optimum (root_expanded g t)
