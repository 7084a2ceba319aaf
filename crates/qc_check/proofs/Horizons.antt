-- The steps of a horizon that is in place are removals: no variable may be bounded there.
use Rattle.std.proofs.Common.{◌≡◌, ℕ, suc, ◌+◌, true, false, not, ◌&&◌, List, [], ◌∷◌, length, refl, Option, Some, None}
use Rattle.std.specs.Prelude.{nat_lt, nat_le}
use Rattle.std.specs.List.{list_all}
use Rattle.std.proofs.lemmas.Bool.{and_from, and_parts}
use Rattle.qc_model.specs.declared.problem.Condition.{Condition}
use Rattle.qc_model.specs.declared.problem.Scope.{Scope}
use Rattle.qc_model.specs.Content.{Game}
use Rattle.qc_model.specs.Domains.{Values, Box, values_left, is_single, has_empty}
use Rattle.qc_model.specs.Game.{allows, is_of_scope}
use Rattle.proof_tree.specs.declared.tree.Horizon.{Horizon}
use Rattle.proof_tree.specs.declared.tree.Step.{Step}
use Rattle.proof_tree.specs.declared.tree.Step.TheVariants.{Prune, Bound}
use Rattle.proof_tree.specs.Cover.{covered, uncovered, is_cover, box_to}
use Rattle.proof_tree.specs.InPlace.{horizon_below, is_nearer, is_horizon, horizon_in_place, steps_in_place, in_place, body_in_place, ending_in_place, branches_in_place, case_in_place}
use Rattle.proof_tree.specs.Place.{position, is_fixed, is_goal, next_scopes, list_after}
use Rattle.proof_tree.specs.Steps.{is_prune, after_step, after_steps, removes_some, is_tracked, is_legal, are_legal}
use Rattle.proof_tree.specs.Tree.{Tree, tree, Body, stuck, goal, cases, Ending, empty, barred, next, branch, Branches, no_more, piece, Case, skip, left_open, go}
use Rattle.proof_text.specs.Horizons.{horizon_prunes, horizons_prune, body_prunes, ending_prunes, branches_prune, case_prunes}

module _ (g : Game) where
  legal_prunes : (i stop : ℕ) (steps : List Step) (box : Box) → are_legal g i stop None steps box ≡ true → list_all is_prune steps ≡ true
  legal_prunes i stop [] box e = refl
  legal_prunes i stop (Prune x low high c ∷ steps) box e =
      let left = after_step (Prune x low high c) box in
      legal_prunes i stop steps left (and_parts (is_legal g i stop None (Prune x low high c) box) (are_legal g i stop None steps left) e).1
  legal_prunes i stop (Bound x low high ∷ steps) box e =
      let p = and_parts (is_legal g i stop None (Bound x low high) box) (are_legal g i stop None steps (after_step (Bound x low high) box)) e in
      let q : false ≡ true = (and_parts (removes_some box x.0 low high) (is_tracked x.0 None) p.0).1 in
      cc

  horizon_alone : (z : Option Horizon) (later : List Scope) (i : ℕ) (box : Box) (h : Option ℕ) → horizon_in_place g z later i box h ≡ true → horizon_prunes z ≡ true
  horizon_alone None later i box h e = refl
  horizon_alone (Some z) later i box h e =
      let near = not (is_goal later) && nat_le i z.scope.0 && nat_le z.scope.0 (i + length later) && is_nearer z.scope.0 h in
      let legal = are_legal g i (suc z.scope.0) None z.steps box in
      legal_prunes i (suc z.scope.0) z.steps box (and_parts near legal (and_parts (near && legal) (has_empty (after_steps z.steps box)) e).0).1

  mutual
    -- a tree in place has removals alone in its horizons
    pub removals_alone : (t : Tree) (later : List Scope) (i : ℕ) (d : List Condition) (box : Box) (h : Option ℕ) → in_place g t later i d box h ≡ true → horizons_prune t ≡ true
    removals_alone (tree z c) later i d box h e =
        let p = and_parts (horizon_in_place g z later i box h) (body_in_place g c later i d box (horizon_below z h)) e in
        and_from (horizon_prunes z) (body_prunes c) (horizon_alone z later i box h p.0) (body_alone c later i d box (horizon_below z h) p.1)

    body_alone : (c : Body) (later : List Scope) (i : ℕ) (d : List Condition) (box : Box) (h : Option ℕ) → body_in_place g c later i d box h ≡ true → body_prunes c ≡ true
    body_alone stuck later i d box h e = refl
    body_alone goal later i d box h e = refl
    body_alone (cases steps end) later i d box h e =
        let left = after_steps steps box in
        ending_alone end later i d left h
        (and_parts (not (is_horizon h i) && not (is_goal later) && steps_in_place g later i d steps box) (ending_in_place g end later i d left h) e).1

    ending_alone : (end : Ending) (later : List Scope) (i : ℕ) (d : List Condition) (box : Box) (h : Option ℕ) → ending_in_place g end later i d box h ≡ true → ending_prunes end ≡ true
    ending_alone empty later i d box h e = refl
    ending_alone barred later i d box h e = refl
    ending_alone (next t) later i d box h e =
        removals_alone t (next_scopes later) (suc i) (list_after g later d) box h
        (and_parts (not (has_empty box) && is_fixed g i box && allows g i (position g (suc i) box)) (in_place g t (next_scopes later) (suc i) (list_after g later d) box h) e).1
    ending_alone (branch x bs) later i d box h e =
        branches_alone bs x.0 (values_left box x.0) later i d box h
        (and_parts (not (has_empty box) && is_of_scope g i x.0 && not (is_single (values_left box x.0))) (branches_in_place g bs x.0 (values_left box x.0) later i d box h) e).1

    branches_alone : (bs : Branches) (x : ℕ) (vs : Values) (later : List Scope) (i : ℕ) (d : List Condition) (box : Box) (h : Option ℕ) → branches_in_place g bs x vs later i d box h ≡ true → branches_prune bs ≡ true
    branches_alone no_more x vs later i d box h e = refl
    branches_alone (piece upto c bs) x vs later i d box h e =
        let one = case_in_place g c x (covered upto vs) later i d box h in
        let p = and_parts (is_cover upto vs && one) (branches_in_place g bs x (uncovered upto vs) later i d box h) e in
        and_from (case_prunes c) (branches_prune bs) (case_alone c x (covered upto vs) later i d box h (and_parts (is_cover upto vs) one p.0).1) (branches_alone bs x (uncovered upto vs) later i d box h p.1)

    case_alone : (c : Case) (x : ℕ) (vs : Values) (later : List Scope) (i : ℕ) (d : List Condition) (box : Box) (h : Option ℕ) → case_in_place g c x vs later i d box h ≡ true → case_prunes c ≡ true
    case_alone skip x vs later i d box h e = refl
    case_alone left_open x vs later i d box h e = refl
    case_alone (go steps end) x vs later i d box h e =
        let left = after_steps steps (box_to box x vs) in
        ending_alone end later i d left h
        (and_parts (nat_lt (length vs) (length (values_left box x)) && steps_in_place g later i d steps (box_to box x vs)) (ending_in_place g end later i d left h) e).1
