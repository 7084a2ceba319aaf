-- The ends of a tree, by its lines.
use Rattle.std.proofs.Common.{◌≡◌, ◌≤◌, ◌+◌, ◌∙◌, ℕ, List, [], ◌∷◌, ◌++◌, map, refl, ap, arith, Option, Some, None, ℤ}
use Rattle.proof_tree.specs.declared.tree.Horizon.{Horizon}
use Rattle.proof_tree.specs.declared.tree.Step.{Step}
use Rattle.proof_tree.specs.declared.tree.Step.TheVariants.{Prune as PruneStep, Bound as BoundStep}
use Rattle.proof_tree.specs.declared.line.Line.{Line}
use Rattle.proof_tree.specs.declared.line.Line.TheVariants.{Horizon as HorizonLine, Prune, Bound, Dot, Stuck, Goal, Empty, Barred, Next, Branch, Skip, Open, Range}
use Rattle.proof_tree.specs.Tree.{Tree, tree, Body, stuck, goal, cases, Ending, empty, barred, next, branch, Branches, no_more, piece, Case, skip, left_open, go}
use Rattle.proof_tree.specs.Lines.{step_line, horizon_lines, upto_lines, tree_lines, body_lines, ending_lines, branches_lines, case_lines}
use Rattle.proof_tree.specs.Counts.{ends_of, body_ends, ending_ends, branch_ends, case_ends}
use Rattle.check_lines.specs.EndSizes.{ends_after, ends_through}

pub through_join : (n : ℕ) (xs ys : List Line) → ends_through n (xs ++ ys) ≡ ends_through (ends_through n xs) ys
through_join n [] ys = refl
through_join n (l ∷ xs) ys = through_join (ends_after n l) xs ys

pub ends_grow : (n : ℕ) (l : Line) → n ≤ ends_after n l
ends_grow n Stuck = omega arith
ends_grow n Goal = omega arith
ends_grow n Empty = omega arith
ends_grow n Barred = omega arith
ends_grow n (HorizonLine k) = omega arith
ends_grow n (Prune x low high c) = omega arith
ends_grow n (Bound x low high) = omega arith
ends_grow n Dot = omega arith
ends_grow n Next = omega arith
ends_grow n (Branch x) = omega arith
ends_grow n Skip = omega arith
ends_grow n Open = omega arith
ends_grow n (Range high) = omega arith

-- some lines of which so many are ends, and then more
joined : (n m k : ℕ) (xs ys : List Line) → ends_through n xs ≡ m → ends_through m ys ≡ k → ends_through n (xs ++ ys) ≡ k
joined n m k xs ys e f = through_join n xs ys ∙ (ap (λ j. ends_through j ys) e ∙ f)

steps_end : (n : ℕ) (steps : List Step) → ends_through n (map step_line steps) ≡ n
steps_end n [] = refl
steps_end n (PruneStep x low high c ∷ steps) = steps_end n steps
steps_end n (BoundStep x low high ∷ steps) = steps_end n steps

horizon_end : (n : ℕ) (z : Option Horizon) → ends_through n (horizon_lines z) ≡ n
horizon_end n None = refl
horizon_end n (Some z) = joined n n n (map step_line z.steps) (Dot ∷ []) (steps_end n z.steps) refl

upto_end : (n : ℕ) (upto : Option ℤ) → ends_through n (upto_lines upto) ≡ n
upto_end n None = refl
upto_end n (Some high) = refl

mutual
  pub tree_ends : (n : ℕ) (t : Tree) → ends_through n (tree_lines t) ≡ n + ends_of t
  tree_ends n (tree z c) = joined n n (n + body_ends c) (horizon_lines z) (body_lines c) (horizon_end n z) (body_end n c)

  body_end : (n : ℕ) (c : Body) → ends_through n (body_lines c) ≡ n + body_ends c
  body_end n stuck = refl
  body_end n goal = refl
  body_end n (cases steps end) = joined n n (n + ending_ends end) (map step_line steps) (ending_lines end) (steps_end n steps) (ending_end n end)

  ending_end : (n : ℕ) (end : Ending) → ends_through n (ending_lines end) ≡ n + ending_ends end
  ending_end n empty = refl
  ending_end n barred = refl
  ending_end n (next t) = tree_ends n t
  ending_end n (branch x bs) = joined n (n + branch_ends bs) (n + branch_ends bs) (branches_lines bs) (Dot ∷ []) (branches_end n bs) refl

  branches_end : (n : ℕ) (bs : Branches) → ends_through n (branches_lines bs) ≡ n + branch_ends bs
  branches_end n no_more = omega arith
  branches_end n (piece upto c bs) =
      joined n (n + case_ends c) (n + (case_ends c + branch_ends bs)) (upto_lines upto ++ case_lines c) (branches_lines bs)
      (joined n n (n + case_ends c) (upto_lines upto) (case_lines c) (upto_end n upto) (case_end n c))
      (let h = branches_end (n + case_ends c) bs in omega (arith, h))

  case_end : (n : ℕ) (c : Case) → ends_through n (case_lines c) ≡ n + case_ends c
  case_end n skip = omega arith
  case_end n left_open = omega arith
  case_end n (go steps end) = joined n n (n + ending_ends end) (map step_line steps) (ending_lines end) (steps_end n steps) (ending_end n end)
