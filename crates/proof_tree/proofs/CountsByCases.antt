-- No more cases pass a test than there are.
use Rattle.std.proofs.Common.{◌≤◌, ◌<◌, Bool, true, false, cond, arith}
use Rattle.std.specs.Prelude.{◌^◌}
use Rattle.proof_tree.specs.Tree.{Tree, tree, Body, stuck, goal, cases, Ending, empty, barred, next, branch, Branches, no_more, piece, Case, skip, left_open, go}
use Rattle.proof_tree.specs.Pieces.{is_open, is_go}
use Rattle.proof_tree.specs.Counts.{count_of, body_count, ending_count, branch_count, case_count, cases_of, turns_of, opens_of, ends_of}
use Rattle.proof_tree.proofs.EndsByTurns.{tree_ends}

at_most_one : (b : Bool) → cond b 1 0 ≤ 1
at_most_one true = omega arith
at_most_one false = omega arith

module _ (p : Case → Bool) where
  abbrev any : Case → Bool
  any c = true

  mutual
    pub some_of_all : (t : Tree) → count_of p t ≤ count_of any t
    some_of_all (tree z c) = body_some c

    body_some : (c : Body) → body_count p c ≤ body_count any c
    body_some stuck = omega arith
    body_some goal = omega arith
    body_some (cases steps end) = ending_some end

    ending_some : (e : Ending) → ending_count p e ≤ ending_count any e
    ending_some empty = omega arith
    ending_some barred = omega arith
    ending_some (next t) = some_of_all t
    ending_some (branch x bs) = branches_some bs

    branches_some : (bs : Branches) → branch_count p bs ≤ branch_count any bs
    branches_some no_more = omega arith
    branches_some (piece upto c bs) =
        let h = case_some c in
        let k = branches_some bs in
        omega (arith, h, k)

    case_some : (c : Case) → case_count p c ≤ case_count any c
    case_some skip = at_most_one (p skip)
    case_some left_open = at_most_one (p left_open)
    case_some (go steps end) =
        let h = at_most_one (p (go steps end)) in
        let k = ending_some end in
        omega (arith, h, k)

pub few_turns : (t : Tree) → cases_of t ≤ 2 ^ 30 → turns_of t < 2 ^ 32
few_turns t h = let k = some_of_all is_go t in omega (arith, h, k)

pub few_opens : (t : Tree) → cases_of t ≤ 2 ^ 30 → opens_of t < 2 ^ 64
few_opens t h = let k = some_of_all is_open t in omega (arith, h, k)

pub few_ends : (t : Tree) → cases_of t ≤ 2 ^ 30 → ends_of t < 2 ^ 64
few_ends t h = let k = some_of_all is_go t in let e = tree_ends t in omega (arith, h, k, e)
