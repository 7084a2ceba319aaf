-- Trees without horizons and steps, and the variables that a tree branches on.
use Rattle.std.specs.Prelude.{ℕ, nat_lt, Bool, true, false, not, ◌&&◌, Option, is_some, [], ◌∷◌}
use Rattle.proof_tree.specs.declared.tree.Horizon.{Horizon}
use Rattle.proof_tree.specs.Tree.{Tree, tree, Body, stuck, goal, cases, Ending, empty, barred, next, branch, Branches, no_more, piece, Case, skip, left_open, go}

-- no horizon stands at the node
abbrev pub has_no_horizon : Option Horizon → Bool
has_no_horizon z = not (is_some z)

-- the tree has no horizon and no step
abbrev mutual
  pub is_stepless : Tree → Bool
  is_stepless (tree z c) = has_no_horizon z && body_stepless c

  pub body_stepless : Body → Bool
  body_stepless stuck = true
  body_stepless goal = true
  body_stepless (cases [] end) = ending_stepless end
  body_stepless (cases (s ∷ steps) end) = false

  pub ending_stepless : Ending → Bool
  ending_stepless empty = true
  ending_stepless barred = true
  ending_stepless (next t) = is_stepless t
  ending_stepless (branch x bs) = branches_stepless bs

  pub branches_stepless : Branches → Bool
  branches_stepless no_more = true
  branches_stepless (piece upto c bs) = case_stepless c && branches_stepless bs

  pub case_stepless : Case → Bool
  case_stepless skip = true
  case_stepless left_open = true
  case_stepless (go [] end) = ending_stepless end
  case_stepless (go (s ∷ steps) end) = false

-- the tree branches on the first n variables only
abbrev mutual
  pub branches_within : ℕ → Tree → Bool
  branches_within n (tree z c) = body_within n c

  pub body_within : ℕ → Body → Bool
  body_within n stuck = true
  body_within n goal = true
  body_within n (cases steps end) = ending_within n end

  pub ending_within : ℕ → Ending → Bool
  ending_within n empty = true
  ending_within n barred = true
  ending_within n (next t) = branches_within n t
  ending_within n (branch x bs) = nat_lt x.0 n && cases_within n bs

  pub cases_within : ℕ → Branches → Bool
  cases_within n no_more = true
  cases_within n (piece upto c bs) = case_within n c && cases_within n bs

  pub case_within : ℕ → Case → Bool
  case_within n skip = true
  case_within n left_open = true
  case_within n (go steps end) = ending_within n end
