-- A test on each step of a tree.
use Rattle.std.specs.Prelude.{Bool, true, ◌&&◌, Option, Some, None}
use Rattle.std.specs.List.{list_all}
use Rattle.proof_tree.specs.declared.tree.Step.{Step}
use Rattle.proof_tree.specs.declared.tree.Horizon.{Horizon}
use Rattle.proof_tree.specs.Tree.{Tree, tree, Body, stuck, goal, cases, Ending, empty, barred, next, branch, Branches, no_more, piece, Case, skip, left_open, go}

abbrev pub horizon_passes : (Step → Bool) → Option Horizon → Bool
horizon_passes p None = true
horizon_passes p (Some z) = list_all p z.steps

-- each step of the tree passes the test
abbrev mutual
  pub each_step : (Step → Bool) → Tree → Bool
  each_step p (tree z c) = horizon_passes p z && body_passes p c

  pub body_passes : (Step → Bool) → Body → Bool
  body_passes p stuck = true
  body_passes p goal = true
  body_passes p (cases steps end) = list_all p steps && ending_passes p end

  pub ending_passes : (Step → Bool) → Ending → Bool
  ending_passes p empty = true
  ending_passes p barred = true
  ending_passes p (next t) = each_step p t
  ending_passes p (branch x bs) = branches_pass p bs

  pub branches_pass : (Step → Bool) → Branches → Bool
  branches_pass p no_more = true
  branches_pass p (piece upto c bs) = case_passes p c && branches_pass p bs

  pub case_passes : (Step → Bool) → Case → Bool
  case_passes p skip = true
  case_passes p left_open = true
  case_passes p (go steps end) = list_all p steps && ending_passes p end
