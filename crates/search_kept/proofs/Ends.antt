-- A tree has one line that ends a part more than turns.
use Rattle.std.proofs.Common.{◌≡◌, ◌+◌, ◌∙◌, suc, List, [], ◌∷◌, ◌++◌, map, cond, Bool, true, false, refl, arith, Option, None, Some, ℤ}
use Rattle.proof_tree.specs.Counts.{turns_of, ending_turns, branch_turns, body_count, case_count}
use Rattle.proof_tree.specs.Lines.{step_line, horizon_lines, upto_lines, tree_lines, body_lines, ending_lines, branches_lines, case_lines}
use Rattle.proof_tree.specs.Pieces.{is_go}
use Rattle.proof_tree.specs.Tree.{Tree, tree, Body, stuck, goal, cases, Ending, empty, barred, next, branch, Branches, no_more, piece, Case, skip, left_open, go}
use Rattle.proof_tree.specs.declared.line.Line.{Line}
use Rattle.proof_tree.specs.declared.line.Line.TheVariants.{Dot}
use Rattle.proof_tree.specs.declared.tree.Horizon.{Horizon}
use Rattle.proof_tree.specs.declared.tree.Step.{Step}
use Rattle.proof_tree.specs.declared.tree.Step.TheVariants.{Prune, Bound}
use Rattle.search_kept.specs.Ends.{ends, ends_in}

ends-append : (xs ys : List Line) → ends_in (xs ++ ys) ≡ ends_in xs + ends_in ys
ends-append [] ys = omega arith
ends-append (x ∷ xs) ys = by (ends x) (ends-append xs ys)
  where
    by : (b : Bool) → ends_in (xs ++ ys) ≡ ends_in xs + ends_in ys → cond b (suc (ends_in (xs ++ ys))) (ends_in (xs ++ ys)) ≡ cond b (suc (ends_in xs)) (ends_in xs) + ends_in ys
    by true e = omega (arith, e)
    by false e = e

steps_end : (steps : List Step) → ends_in (map step_line steps) ≡ 0
steps_end [] = refl
steps_end (Prune x low high c ∷ steps) = steps_end steps
steps_end (Bound x low high ∷ steps) = steps_end steps

horizon_ends : (z : Option Horizon) → ends_in (horizon_lines z) ≡ 0
horizon_ends None = refl
horizon_ends (Some z) = ends-append (map step_line z.steps) (Dot ∷ []) ∙ omega (arith, steps_end z.steps)

upto_ends : (upto : Option ℤ) → ends_in (upto_lines upto) ≡ 0
upto_ends None = refl
upto_ends (Some high) = refl

behind : (xs ys : List Line) → ends_in xs ≡ 0 → ends_in (xs ++ ys) ≡ ends_in ys
behind xs ys e = omega (arith, ends-append xs ys, e)

mutual
  pub tree_ends : (t : Tree) → ends_in (tree_lines t) ≡ suc (turns_of t)
  tree_ends (tree z c) = behind (horizon_lines z) (body_lines c) (horizon_ends z) ∙ body_ends c

  body_ends : (c : Body) → ends_in (body_lines c) ≡ suc (body_count is_go c)
  body_ends stuck = refl
  body_ends goal = refl
  body_ends (cases steps end) = behind (map step_line steps) (ending_lines end) (steps_end steps) ∙ ending_ends end

  ending_ends : (end : Ending) → ends_in (ending_lines end) ≡ suc (ending_turns end)
  ending_ends empty = refl
  ending_ends barred = refl
  ending_ends (next t) = tree_ends t
  ending_ends (branch x bs) = omega (arith, ends-append (branches_lines bs) (Dot ∷ []), branches_end bs)

  branches_end : (bs : Branches) → ends_in (branches_lines bs) ≡ branch_turns bs
  branches_end no_more = refl
  branches_end (piece upto c bs) =
      omega (arith, ends-append (upto_lines upto ++ case_lines c) (branches_lines bs), ends-append (upto_lines upto) (case_lines c), upto_ends upto, case_ends c, branches_end bs)

  case_ends : (c : Case) → ends_in (case_lines c) ≡ case_count is_go c
  case_ends skip = refl
  case_ends left_open = refl
  case_ends (go steps end) = omega (arith, behind (map step_line steps) (ending_lines end) (steps_end steps) ∙ ending_ends end)
