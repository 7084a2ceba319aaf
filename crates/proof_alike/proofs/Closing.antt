-- A tree closes its boxes alike.
use Rattle.std.proofs.Common.{◌≡◌, true, ℕ, suc, ◌&&◌, List, refl, ap, ◌∙◌}
use Rattle.std.specs.List.{list_all}
use Rattle.qc_model.specs.declared.problem.Scope.{Scope}
use Rattle.qc_model.specs.declared.problem.Condition.{Condition}
use Rattle.qc_model.specs.Content.{Game}
use Rattle.qc_model.specs.Domains.{Values, Box, values_left, is_single}
use Rattle.qc_model.specs.Closed.{is_closed}
use Rattle.qc_model.specs.Block.{force_stop, constraints_in_force}
use Rattle.proof_tree.specs.Tree.{Tree, tree, Body, stuck, goal, cases, Ending, empty, barred, next, branch, Branches, no_more, piece, Case, skip, left_open, go}
use Rattle.proof_tree.specs.Cover.{covered, uncovered, box_to}
use Rattle.proof_tree.specs.Place.{is_fixed_to, next_scopes, list_after}
use Rattle.proof_tree.specs.Steps.{after_steps}
use Rattle.proof_tree.specs.Diligent.{closes, body_closes, ending_closes, branches_close, case_closes}
use Rattle.proof_alike.specs.Alike.{is_looked_at}
use Rattle.proof_alike.proofs.Boxes.{and_both, Look, look_set, look_next, ahead_same}
use Rattle.proof_alike.proofs.Rules.{closed_same}
use Rattle.proof_alike.proofs.Walks.{Walk, BodyWalk, EndingWalk, BranchesWalk, CaseWalk}

module _ (g : Game) (top : ℕ) where
  mutual
    pub closes_same : (t : Tree) (later : List Scope) (i : ℕ) (d : List Condition) (a b : Box) → Look g top i a b → Walk g top t later i d a b → closes g t later i a ≡ closes g t later i b
    closes_same (tree z c) later i d a b l w = body_same c later i d a b l w.1

    body_same : (c : Body) (later : List Scope) (i : ℕ) (d : List Condition) (a b : Box) → Look g top i a b → BodyWalk g top c later i d a b → body_closes g c later i a ≡ body_closes g c later i b
    body_same stuck later i d a b l w = refl
    body_same goal later i d a b l w = refl
    body_same (cases steps end) later i d a b l w = ending_same end later i d (after_steps steps a) (after_steps steps b) w.0.after w.1

    ending_same : (end : Ending) (later : List Scope) (i : ℕ) (d : List Condition) (a b : Box) → Look g top i a b → EndingWalk g top end later i d a b →
        ending_closes g end later i a ≡ ending_closes g end later i b
    ending_same empty later i d a b l w = refl
    ending_same barred later i d a b l w = refl
    ending_same (next t) later i d a b l w = closes_same t (next_scopes later) (suc i) (list_after g later d) a b (look_next g top i a b l) w
    ending_same (branch x bs) later i d a b l w =
        let rules = constraints_in_force g later i in
        and_both (is_closed rules a && is_fixed_to g i x.0 a) (branches_close g bs x.0 (values_left a x.0) later i a) (is_closed rules b && is_fixed_to g i x.0 b) (branches_close g bs x.0 (values_left b x.0) later i b)
        (and_both (is_closed rules a) (is_fixed_to g i x.0 a) (is_closed rules b) (is_fixed_to g i x.0 b) (closed_same g top i (force_stop later i) a b l) (ap (list_all is_single) (ahead_same g top i x.0 a b l)))
        (branches_same bs x.0 (values_left a x.0) later i d a b w.0 l w.1 ∙ ap (λ vs. branches_close g bs x.0 vs later i b) (l.same x.0 w.0))

    branches_same : (bs : Branches) (x : ℕ) (vs : Values) (later : List Scope) (i : ℕ) (d : List Condition) (a b : Box) → is_looked_at g top x ≡ true → Look g top i a b → BranchesWalk g top bs x vs later i d a b →
        branches_close g bs x vs later i a ≡ branches_close g bs x vs later i b
    branches_same no_more x vs later i d a b o l w = refl
    branches_same (piece upto c bs) x vs later i d a b o l w =
        let us = covered upto vs in
        and_both (case_closes g c later i (box_to a x us)) (branches_close g bs x (uncovered upto vs) later i a) (case_closes g c later i (box_to b x us)) (branches_close g bs x (uncovered upto vs) later i b)
        (case_same c later i d (box_to a x us) (box_to b x us) (look_set g top i a b x us o l) w.0) (branches_same bs x (uncovered upto vs) later i d a b o l w.1)

    case_same : (c : Case) (later : List Scope) (i : ℕ) (d : List Condition) (a b : Box) → Look g top i a b → CaseWalk g top c later i d a b → case_closes g c later i a ≡ case_closes g c later i b
    case_same skip later i d a b l w = refl
    case_same left_open later i d a b l w = refl
    case_same (go steps end) later i d a b l w = ending_same end later i d (after_steps steps a) (after_steps steps b) w.0.after w.1
