-- Which horizons have a text.
use Rattle.std.specs.Prelude.{Bool, true, ◌&&◌, Option, Some, None}
use Rattle.std.specs.List.{list_all}
use Rattle.proof_tree.specs.declared.tree.Horizon.{Horizon}
use Rattle.proof_tree.specs.Steps.{is_prune}
use Rattle.proof_tree.specs.Tree.{Tree, tree, Body, stuck, goal, cases, Ending, empty, barred, next, branch, Branches, no_more, piece, Case, skip, left_open, go}

abbrev pub horizon_prunes : Option Horizon → Bool
horizon_prunes None = true
horizon_prunes (Some z) = list_all is_prune z.steps

-- each step of the tree's horizons is a removal
abbrev mutual
  pub horizons_prune : Tree → Bool
  horizons_prune (tree z c) = horizon_prunes z && body_prunes c

  pub body_prunes : Body → Bool
  body_prunes stuck = true
  body_prunes goal = true
  body_prunes (cases steps end) = ending_prunes end

  pub ending_prunes : Ending → Bool
  ending_prunes empty = true
  ending_prunes barred = true
  ending_prunes (next t) = horizons_prune t
  ending_prunes (branch x bs) = branches_prune bs

  pub branches_prune : Branches → Bool
  branches_prune no_more = true
  branches_prune (piece upto c bs) = case_prunes c && branches_prune bs

  pub case_prunes : Case → Bool
  case_prunes skip = true
  case_prunes left_open = true
  case_prunes (go steps end) = ending_prunes end
