-- The lines of a tree whose numbers fit the text fit it, and the other way round.
use Rattle.std.proofs.Common.{◌≡◌, ◌∙◌, refl, sym, ℕ, ◌+◌, true, ◌&&◌, Option, Some, None, List, [], ◌∷◌, ◌++◌, map, ℤ, arith}
use Rattle.std.specs.Prelude.{nat_le}
use Rattle.std.specs.List.{list_all}
use Rattle.std.proofs.lemmas.Bool.{and_from, and_parts}
use Rattle.std.proofs.lemmas.Bool.Decides.{nat_tests}
use Rattle.std.proofs.lemmas.List.Folds.{list_all-append}
use Rattle.qc_model.specs.Valid.{is_number}
use Rattle.proof_tree.specs.declared.line.Line.{Line}
use Rattle.proof_tree.specs.declared.line.Line.TheVariants.{Dot}
use Rattle.proof_tree.specs.declared.tree.Horizon.{Horizon}
use Rattle.proof_tree.specs.declared.tree.Step.{Step}
use Rattle.proof_tree.specs.declared.tree.Step.TheVariants.{Prune, Bound}
use Rattle.proof_tree.specs.declared.tree.Version.{Version}
use Rattle.proof_tree.specs.declared.tree.Version.TheVariants.{One, Two}
use Rattle.proof_tree.specs.Lines.{step_line, horizon_lines, upto_lines, tree_lines, body_lines, ending_lines, branches_lines, case_lines}
use Rattle.proof_tree.specs.Text.{is_place, step_fits, horizon_fits, upto_fits, tree_fits, body_fits, ending_fits, branches_fit, case_fits}
use Rattle.proof_tree.specs.Tree.{Tree, tree, Body, stuck, goal, cases, Ending, empty, barred, next, branch, Branches, no_more, piece, Case, skip, left_open, go}
use Rattle.proof_tree.specs.Steps.{is_prune}
use Rattle.proof_text.specs.LineRanges.{line_fits}
use Rattle.proof_text.specs.Horizons.{horizon_prunes, horizons_prune, body_prunes, ending_prunes, branches_prune, case_prunes}

abbrev Fit : List Line → Type 0
Fit ls = list_all line_fits ls ≡ true

both_fit : (xs ys : List Line) → Fit xs → Fit ys → Fit (xs ++ ys)
both_fit xs ys p q = list_all-append line_fits xs ys ∙ and_from (list_all line_fits xs) (list_all line_fits ys) p q

step_fitting : (s : Step) → step_fits s ≡ true → line_fits (step_line s) ≡ true
step_fitting (Prune x low high c) f = f
step_fitting (Bound x low high) f = f

steps_fitting : (steps : List Step) → list_all step_fits steps ≡ true → Fit (map step_line steps)
steps_fitting [] f = refl
steps_fitting (s ∷ steps) f =
    let p = and_parts (step_fits s) (list_all step_fits steps) f in
    and_from (line_fits (step_line s)) (list_all line_fits (map step_line steps)) (step_fitting s p.0) (steps_fitting steps p.1)

scope_fits : (k : ℕ) → is_place 65 k ≡ true → (nat_le 1 (k + 1) && nat_le (k + 1) 65) ≡ true
scope_fits k f = and_from (nat_le 1 (k + 1)) (nat_le (k + 1) 65) (first k) f
  where
    first : (k : ℕ) → nat_le 1 (k + 1) ≡ true
    first k = grind (arith, nat_tests)

horizon_fitting : (z : Option Horizon) → horizon_fits z ≡ true → Fit (horizon_lines z)
horizon_fitting None f = refl
horizon_fitting (Some z) f =
    let p = and_parts (is_place 65 z.scope.0 && list_all step_fits z.steps) (list_all is_prune z.steps) f in
    let q = and_parts (is_place 65 z.scope.0) (list_all step_fits z.steps) p.0 in
    and_from _ _ (scope_fits z.scope.0 q.0) (both_fit (map step_line z.steps) (Dot ∷ []) (steps_fitting z.steps q.1) refl)

upto_fitting : (version : Version) (upto : Option ℤ) → upto_fits version upto ≡ true → Fit (upto_lines upto)
upto_fitting version None f = refl
upto_fitting One (Some high) f = absurd cc
upto_fitting Two (Some high) f = and_from (is_number high) true f refl

mutual
  pub tree_fitting : (version : Version) (t : Tree) → tree_fits version t ≡ true → Fit (tree_lines t)
  tree_fitting version (tree z c) f =
      let p = and_parts (horizon_fits z) (body_fits version c) f in
      both_fit (horizon_lines z) (body_lines c) (horizon_fitting z p.0) (body_fitting version c p.1)

  body_fitting : (version : Version) (c : Body) → body_fits version c ≡ true → Fit (body_lines c)
  body_fitting version stuck f = refl
  body_fitting version goal f = refl
  body_fitting version (cases steps end) f =
      let p = and_parts (list_all step_fits steps) (ending_fits version end) f in
      both_fit (map step_line steps) (ending_lines end) (steps_fitting steps p.0) (ending_fitting version end p.1)

  ending_fitting : (version : Version) (e : Ending) → ending_fits version e ≡ true → Fit (ending_lines e)
  ending_fitting version empty f = refl
  ending_fitting version barred f = refl
  ending_fitting version (next t) f = tree_fitting version t f
  ending_fitting version (branch x bs) f =
      let p = and_parts (is_place 500 x.0) (branches_fit version bs) f in
      and_from (is_place 500 x.0) (list_all line_fits (branches_lines bs ++ Dot ∷ [])) p.0 (both_fit (branches_lines bs) (Dot ∷ []) (branches_fitting version bs p.1) refl)

  branches_fitting : (version : Version) (bs : Branches) → branches_fit version bs ≡ true → Fit (branches_lines bs)
  branches_fitting version no_more f = refl
  branches_fitting version (piece upto c bs) f =
      let p = and_parts (upto_fits version upto && case_fits version c) (branches_fit version bs) f in
      let q = and_parts (upto_fits version upto) (case_fits version c) p.0 in
      both_fit (upto_lines upto ++ case_lines c) (branches_lines bs) (both_fit (upto_lines upto) (case_lines c) (upto_fitting version upto q.0) (case_fitting version c q.1)) (branches_fitting version bs p.1)

  case_fitting : (version : Version) (c : Case) → case_fits version c ≡ true → Fit (case_lines c)
  case_fitting version skip f = refl
  case_fitting version left_open f = refl
  case_fitting version (go steps end) f =
      let p = and_parts (list_all step_fits steps) (ending_fits version end) f in
      both_fit (map step_line steps) (ending_lines end) (steps_fitting steps p.0) (ending_fitting version end p.1)

each_fits : (xs ys : List Line) → Fit (xs ++ ys) → Fit xs × Fit ys
each_fits xs ys f = and_parts (list_all line_fits xs) (list_all line_fits ys) (sym (list_all-append line_fits xs ys) ∙ f)

fitting_step : (s : Step) → line_fits (step_line s) ≡ true → step_fits s ≡ true
fitting_step (Prune x low high c) f = f
fitting_step (Bound x low high) f = f

fitting_steps : (steps : List Step) → Fit (map step_line steps) → list_all step_fits steps ≡ true
fitting_steps [] f = refl
fitting_steps (s ∷ steps) f =
    let p = and_parts (line_fits (step_line s)) (list_all line_fits (map step_line steps)) f in
    and_from (step_fits s) (list_all step_fits steps) (fitting_step s p.0) (fitting_steps steps p.1)

fitting_horizon : (z : Option Horizon) → Fit (horizon_lines z) → horizon_prunes z ≡ true → horizon_fits z ≡ true
fitting_horizon None f h = refl
fitting_horizon (Some z) f h =
    let p = and_parts (nat_le 1 (z.scope.0 + 1) && nat_le (z.scope.0 + 1) 65) (list_all line_fits (map step_line z.steps ++ Dot ∷ [])) f in
    let q = and_parts (nat_le 1 (z.scope.0 + 1)) (nat_le (z.scope.0 + 1) 65) p.0 in
    let steps = fitting_steps z.steps (each_fits (map step_line z.steps) (Dot ∷ []) p.1).0 in
    and_from (is_place 65 z.scope.0 && list_all step_fits z.steps) (list_all is_prune z.steps) (and_from (is_place 65 z.scope.0) (list_all step_fits z.steps) q.1 steps) h

fitting_upto : (upto : Option ℤ) → Fit (upto_lines upto) → upto_fits Two upto ≡ true
fitting_upto None f = refl
fitting_upto (Some high) f = (and_parts (is_number high) true f).0

mutual
  -- a tree whose lines fit, with removals alone in its horizons, fits the second version
  pub fitting_tree : (t : Tree) → list_all line_fits (tree_lines t) ≡ true → horizons_prune t ≡ true → tree_fits Two t ≡ true
  fitting_tree (tree z c) f h =
      let p = each_fits (horizon_lines z) (body_lines c) f in
      let q = and_parts (horizon_prunes z) (body_prunes c) h in
      and_from (horizon_fits z) (body_fits Two c) (fitting_horizon z p.0 q.0) (fitting_body c p.1 q.1)

  fitting_body : (c : Body) → Fit (body_lines c) → body_prunes c ≡ true → body_fits Two c ≡ true
  fitting_body stuck f h = refl
  fitting_body goal f h = refl
  fitting_body (cases steps end) f h =
      let p = each_fits (map step_line steps) (ending_lines end) f in
      and_from (list_all step_fits steps) (ending_fits Two end) (fitting_steps steps p.0) (fitting_ending end p.1 h)

  fitting_ending : (e : Ending) → Fit (ending_lines e) → ending_prunes e ≡ true → ending_fits Two e ≡ true
  fitting_ending empty f h = refl
  fitting_ending barred f h = refl
  fitting_ending (next t) f h = fitting_tree t f h
  fitting_ending (branch x bs) f h =
      let p = and_parts (is_place 500 x.0) (list_all line_fits (branches_lines bs ++ Dot ∷ [])) f in
      and_from (is_place 500 x.0) (branches_fit Two bs) p.0 (fitting_branches bs (each_fits (branches_lines bs) (Dot ∷ []) p.1).0 h)

  fitting_branches : (bs : Branches) → Fit (branches_lines bs) → branches_prune bs ≡ true → branches_fit Two bs ≡ true
  fitting_branches no_more f h = refl
  fitting_branches (piece upto c bs) f h =
      let p = each_fits (upto_lines upto ++ case_lines c) (branches_lines bs) f in
      let q = each_fits (upto_lines upto) (case_lines c) p.0 in
      let r = and_parts (case_prunes c) (branches_prune bs) h in
      and_from (upto_fits Two upto && case_fits Two c) (branches_fit Two bs) (and_from (upto_fits Two upto) (case_fits Two c) (fitting_upto upto q.0) (fitting_case c q.1 r.0)) (fitting_branches bs p.1 r.1)

  fitting_case : (c : Case) → Fit (case_lines c) → case_prunes c ≡ true → case_fits Two c ≡ true
  fitting_case skip f h = refl
  fitting_case left_open f h = refl
  fitting_case (go steps end) f h =
      let p = each_fits (map step_line steps) (ending_lines end) f in
      and_from (list_all step_fits steps) (ending_fits Two end) (fitting_steps steps p.0) (fitting_ending end p.1 h)
