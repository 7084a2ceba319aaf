-- The text of a tree, part by part.
use Rattle.std.specs.Prelude.{◌+◌, Option, Some, None, List, [], ◌++◌, flat_map, ℕ, ℤ}
use Rattle.proof_tree.specs.declared.tree.Horizon.{Horizon}
use Rattle.proof_tree.specs.declared.tree.Step.{Step}
use Rattle.proof_tree.specs.declared.line.Line.TheVariants.{Horizon as HorizonLine, Dot, Stuck, Goal, Empty, Barred, Next, Branch, Skip, Open, Range}
use Rattle.proof_tree.specs.Tree.{Tree, tree, Body, stuck, goal, cases, Ending, empty, barred, next, branch, Branches, no_more, piece, Case, skip, left_open, go}
use Rattle.proof_tree.specs.Lines.{step_line}
use Rattle.proof_tree.specs.Text.{line_text}

abbrev pub step_text : Step → List ℕ
step_text s = line_text (step_line s)

abbrev pub steps_text : List Step → List ℕ
steps_text steps = flat_map step_text steps

abbrev pub horizon_text : Option Horizon → List ℕ
horizon_text None = []
horizon_text (Some z) = line_text (HorizonLine (z.scope.0 + 1)) ++ steps_text z.steps ++ line_text Dot

abbrev pub upto_text : Option ℤ → List ℕ
upto_text None = []
upto_text (Some high) = line_text (Range high)

abbrev mutual
  pub tree_text : Tree → List ℕ
  tree_text (tree z c) = horizon_text z ++ body_text c

  pub body_text : Body → List ℕ
  body_text stuck = line_text Stuck
  body_text goal = line_text Goal
  body_text (cases steps end) = steps_text steps ++ ending_text end

  pub ending_text : Ending → List ℕ
  ending_text empty = line_text Empty
  ending_text barred = line_text Barred
  ending_text (next t) = line_text Next ++ tree_text t
  ending_text (branch x bs) = line_text (Branch x) ++ branches_text bs ++ line_text Dot

  pub branches_text : Branches → List ℕ
  branches_text no_more = []
  branches_text (piece upto c bs) = upto_text upto ++ case_text c ++ branches_text bs

  pub case_text : Case → List ℕ
  case_text skip = line_text Skip
  case_text left_open = line_text Open
  case_text (go steps end) = steps_text steps ++ ending_text end
