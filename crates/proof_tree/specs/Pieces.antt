-- Tests on the cases of a tree.
use Rattle.std.specs.Prelude.{Bool, true, false, not, ◌&&◌, Option, ℤ, is_some}
use Rattle.proof_tree.specs.declared.tree.Version.{Version}
use Rattle.proof_tree.specs.declared.tree.Version.TheVariants.{One, Two}
use Rattle.proof_tree.specs.Tree.{Tree, tree, Body, stuck, goal, cases, Ending, empty, barred, next, branch, Branches, no_more, piece, Case, skip, left_open, go}

abbrev pub is_skip : Case → Bool
is_skip skip = true
is_skip left_open = false
is_skip (go steps end) = false

abbrev pub is_open : Case → Bool
is_open skip = false
is_open left_open = true
is_open (go steps end) = false

abbrev pub is_go : Case → Bool
is_go skip = false
is_go left_open = false
is_go (go steps end) = true

-- each case of the tree passes the test, with its upper value and the cases after it in its branch
abbrev mutual
  pub each_case : (Option ℤ → Case → Branches → Bool) → Tree → Bool
  each_case p (tree z c) = body_each p c

  pub body_each : (Option ℤ → Case → Branches → Bool) → Body → Bool
  body_each p stuck = true
  body_each p goal = true
  body_each p (cases steps end) = ending_each p end

  pub ending_each : (Option ℤ → Case → Branches → Bool) → Ending → Bool
  ending_each p empty = true
  ending_each p barred = true
  ending_each p (next t) = each_case p t
  ending_each p (branch x bs) = branches_each p bs

  pub branches_each : (Option ℤ → Case → Branches → Bool) → Branches → Bool
  branches_each p no_more = true
  branches_each p (piece upto c bs) = p upto c bs && inner_each p c && branches_each p bs

  pub inner_each : (Option ℤ → Case → Branches → Bool) → Case → Bool
  inner_each p skip = true
  inner_each p left_open = true
  inner_each p (go steps end) = ending_each p end

-- the case has no upper value
abbrev pub is_one : Option ℤ → Case → Branches → Bool
is_one upto c bs = not (is_some upto)

-- a case that is taken has no upper value
abbrev pub goes_at_one : Option ℤ → Case → Branches → Bool
goes_at_one upto c bs = not (is_go c && is_some upto)

-- what the version of the text can say: in the first each case has one value
abbrev pub version_has : Version → Tree → Bool
version_has One t = each_case is_one t
version_has Two t = true
