-- Lines that remove values of variables that are looked at, and their trees.
use Rattle.std.proofs.Common.{◌≡◌, ◌≤◌, ◌∙◌, ℕ, Bool, true, List, [], ◌∷◌, ◌++◌, map, refl, sym, Option, None, Some}
use Rattle.std.specs.List.{list_all}
use Rattle.std.proofs.lemmas.List.Folds.{list_all-append}
use Rattle.std.proofs.lemmas.Bool.{and_parts, and_from}
use Rattle.qc_model.specs.Content.{Game}
use Rattle.proof_alike.specs.Alike.{is_looked_at}
use Rattle.proof_alike.specs.EachStep.{horizon_passes, body_passes, ending_passes, branches_pass, case_passes}
use Rattle.proof_alike.specs.Looking.{looks, step_looks}
use Rattle.proof_tree.specs.declared.line.Line.{Line}
use Rattle.proof_tree.specs.declared.line.Line.TheVariants.{Dot, Prune as PruneLine}
use Rattle.proof_tree.specs.declared.tree.Horizon.{Horizon}
use Rattle.proof_tree.specs.declared.tree.Step.{Step}
use Rattle.proof_tree.specs.declared.tree.Step.TheVariants.{Prune, Bound}
use Rattle.proof_tree.specs.Lines.{step_line, horizon_lines, upto_lines, tree_lines, body_lines, ending_lines, branches_lines, case_lines}
use Rattle.proof_tree.specs.Tree.{Tree, tree, Body, stuck, goal, cases, Ending, empty, barred, next, branch, Branches, no_more, piece, Case, skip, left_open, go}
use Rattle.likeness.specs.Likeness.{line_looks}
use Rattle.likeness.proofs.Likes.{looked_before}

-- so what lines remove from a scope on they may remove from each earlier one on
pub lines_look_before : (g : Game) (i j : ℕ) (ls : List Line) → i ≤ j → list_all (line_looks g j) ls ≡ true → list_all (line_looks g i) ls ≡ true
lines_look_before g i j [] h e = refl
lines_look_before g i j (l ∷ ls) h e =
    let p = and_parts (line_looks g j l) (list_all (line_looks g j) ls) e in
    and_from (line_looks g i l) (list_all (line_looks g i) ls) (one l p.0) (lines_look_before g i j ls h p.1)
  where
    one : (l : Line) → line_looks g j l ≡ true → line_looks g i l ≡ true
    one (PruneLine x low high c) e = looked_before g i j x.0 h e
    one l e = e

-- a tree whose lines remove values of variables that are looked at
parts_pass : (p : Line → Bool) (xs ys : List Line) → list_all p (xs ++ ys) ≡ true → (list_all p xs ≡ true) × (list_all p ys ≡ true)
parts_pass p xs ys e = and_parts (list_all p xs) (list_all p ys) (sym (list_all-append p xs ys) ∙ e)

module _ (g : Game) (i : ℕ) where
  abbrev Look : List Line → Type 0
  Look ls = list_all (line_looks g i) ls ≡ true

  steps_look : (steps : List Step) → Look (map step_line steps) → list_all (step_looks g i) steps ≡ true
  steps_look [] e = refl
  steps_look (Prune x low high c ∷ steps) e =
      let p = and_parts (is_looked_at g i x.0) (list_all (line_looks g i) (map step_line steps)) e in
      and_from _ _ p.0 (steps_look steps p.1)
  steps_look (Bound x low high ∷ steps) e = steps_look steps e

  horizon_looks : (z : Option Horizon) → Look (horizon_lines z) → horizon_passes (step_looks g i) z ≡ true
  horizon_looks None e = refl
  horizon_looks (Some z) e = steps_look z.steps (parts_pass (line_looks g i) (map step_line z.steps) (Dot ∷ []) e).0

  mutual
    pub tree_looks : (t : Tree) → Look (tree_lines t) → looks g i t ≡ true
    tree_looks (tree z c) e =
        let p = parts_pass (line_looks g i) (horizon_lines z) (body_lines c) e in
        and_from _ _ (horizon_looks z p.0) (body_looks c p.1)

    body_looks : (c : Body) → Look (body_lines c) → body_passes (step_looks g i) c ≡ true
    body_looks stuck e = refl
    body_looks goal e = refl
    body_looks (cases steps end) e =
        let p = parts_pass (line_looks g i) (map step_line steps) (ending_lines end) e in
        and_from _ _ (steps_look steps p.0) (ending_looks end p.1)

    ending_looks : (end : Ending) → Look (ending_lines end) → ending_passes (step_looks g i) end ≡ true
    ending_looks empty e = refl
    ending_looks barred e = refl
    ending_looks (next t) e = tree_looks t e
    ending_looks (branch x bs) e = branches_look bs (parts_pass (line_looks g i) (branches_lines bs) (Dot ∷ []) e).0

    branches_look : (bs : Branches) → Look (branches_lines bs) → branches_pass (step_looks g i) bs ≡ true
    branches_look no_more e = refl
    branches_look (piece upto c bs) e =
        let p = parts_pass (line_looks g i) (upto_lines upto ++ case_lines c) (branches_lines bs) e in
        and_from _ _ (case_looks c (parts_pass (line_looks g i) (upto_lines upto) (case_lines c) p.0).1) (branches_look bs p.1)

    case_looks : (c : Case) → Look (case_lines c) → case_passes (step_looks g i) c ≡ true
    case_looks skip e = refl
    case_looks left_open e = refl
    case_looks (go steps end) e =
        let p = parts_pass (line_looks g i) (map step_line steps) (ending_lines end) e in
        and_from _ _ (steps_look steps p.0) (ending_looks end p.1)
