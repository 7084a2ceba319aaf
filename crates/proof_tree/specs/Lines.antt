-- The lines of a tree, from top to bottom.
use Rattle.std.specs.Prelude.{◌+◌, Option, Some, None, List, [], ◌∷◌, ◌++◌, map, ℤ}
use Rattle.proof_tree.specs.declared.tree.Horizon.{Horizon}
use Rattle.proof_tree.specs.declared.tree.Step.{Step}
use Rattle.proof_tree.specs.declared.tree.Step.TheVariants.{Prune, Bound}
use Rattle.proof_tree.specs.declared.line.Line.{Line}
use Rattle.proof_tree.specs.declared.line.Line.TheVariants.{Horizon as HorizonLine, Prune as PruneLine, Bound as BoundLine, Dot, Stuck, Goal, Empty, Barred, Next, Branch, Skip, Open, Range}
use Rattle.proof_tree.specs.Tree.{Tree, tree, Body, stuck, goal, cases, Ending, empty, barred, next, branch, Branches, no_more, piece, Case, skip, left_open, go}

abbrev pub step_line : Step → Line
step_line (Prune x low high c) = PruneLine x low high c
step_line (Bound x low high) = BoundLine x low high

abbrev pub horizon_lines : Option Horizon → List Line
horizon_lines None = []
horizon_lines (Some z) = HorizonLine (z.scope.0 + 1) ∷ (map step_line z.steps ++ Dot ∷ [])

-- a case of several values says the last of them
abbrev pub upto_lines : Option ℤ → List Line
upto_lines None = []
upto_lines (Some high) = Range high ∷ []

abbrev mutual
  pub tree_lines : Tree → List Line
  tree_lines (tree z c) = horizon_lines z ++ body_lines c

  pub body_lines : Body → List Line
  body_lines stuck = Stuck ∷ []
  body_lines goal = Goal ∷ []
  body_lines (cases steps end) = map step_line steps ++ ending_lines end

  pub ending_lines : Ending → List Line
  ending_lines empty = Empty ∷ []
  ending_lines barred = Barred ∷ []
  ending_lines (next t) = Next ∷ tree_lines t
  ending_lines (branch x bs) = Branch x ∷ (branches_lines bs ++ Dot ∷ [])

  pub branches_lines : Branches → List Line
  branches_lines no_more = []
  branches_lines (piece upto c bs) = upto_lines upto ++ case_lines c ++ branches_lines bs

  pub case_lines : Case → List Line
  case_lines skip = Skip ∷ []
  case_lines left_open = Open ∷ []
  case_lines (go steps end) = map step_line steps ++ ending_lines end
