-- A tree has at most one end more than turns.
use Rattle.std.proofs.Common.{◌≤◌, ◌+◌, arith}
use Rattle.proof_tree.specs.Tree.{Tree, tree, Body, stuck, goal, cases, Ending, empty, barred, next, branch, Branches, no_more, piece, Case, skip, left_open, go}
use Rattle.proof_tree.specs.Pieces.{is_go}
use Rattle.proof_tree.specs.Counts.{turns_of, body_count, ending_turns, branch_turns, case_count, ends_of, body_ends, ending_ends, branch_ends, case_ends}

mutual
  pub tree_ends : (t : Tree) → ends_of t ≤ 1 + turns_of t
  tree_ends (tree z c) = body_few c

  body_few : (c : Body) → body_ends c ≤ 1 + body_count is_go c
  body_few stuck = omega arith
  body_few goal = omega arith
  body_few (cases steps end) = ending_few end

  ending_few : (e : Ending) → ending_ends e ≤ 1 + ending_turns e
  ending_few empty = omega arith
  ending_few barred = omega arith
  ending_few (next t) = tree_ends t
  ending_few (branch x bs) = let h = branches_few bs in omega (arith, h)

  branches_few : (bs : Branches) → branch_ends bs ≤ branch_turns bs
  branches_few no_more = omega arith
  branches_few (piece upto c bs) =
      let h = case_few c in
      let k = branches_few bs in
      omega (arith, h, k)

  case_few : (c : Case) → case_ends c ≤ case_count is_go c
  case_few skip = omega arith
  case_few left_open = omega arith
  case_few (go steps end) = ending_few end
