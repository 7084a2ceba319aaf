-- The lines of a branch and of a horizon, in the forms that the states read.
use Rattle.std.proofs.Common.{◌≡◌, suc, List, [], ◌∷◌, ◌++◌, map, ap, ◌∙◌, Option, Some, ℤ, append_assoc, add-one}
use Rattle.proof_tree.specs.declared.tree.Horizon.{Horizon}
use Rattle.proof_tree.specs.Tree.{tree, Body, Branches, piece, Case}
use Rattle.proof_tree.specs.declared.line.Line.{Line}
use Rattle.proof_tree.specs.declared.line.Line.TheVariants.{Horizon as HorizonLine, Dot}
use Rattle.proof_tree.specs.Lines.{step_line, upto_lines, tree_lines, body_lines, branches_lines, case_lines}

-- the cases of a branch, and the dot after them
abbrev pub cases_lines : Branches → List Line
cases_lines bs = branches_lines bs ++ Dot ∷ []

pub cases_first : (upto : Option ℤ) (c : Case) (bs : Branches) → cases_lines (piece upto c bs) ≡ upto_lines upto ++ (case_lines c ++ cases_lines bs)
cases_first upto c bs = append_assoc (upto_lines upto ++ case_lines c) (branches_lines bs) (Dot ∷ []) ∙ append_assoc (upto_lines upto) (case_lines c) (cases_lines bs)

pub seen_lines : (z : Horizon) (c : Body) → tree_lines (tree (Some z) c) ≡ (HorizonLine (suc z.scope.0) ∷ (map step_line z.steps ++ Dot ∷ [])) ++ body_lines c
seen_lines z c = ap (λ k. (HorizonLine k ∷ (map step_line z.steps ++ Dot ∷ [])) ++ body_lines c) (add-one z.scope.0)
