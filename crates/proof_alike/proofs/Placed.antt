-- A tree that is in place in one box is so in each that looks the same.
use Rattle.std.proofs.Common.{◌≡◌, ℕ, suc, true, not, ◌&&◌, List, length, refl, sym, ap, subst, ◌∙◌, arith, Option}
use Rattle.std.specs.Prelude.{nat_lt}
use Rattle.std.specs.List.{list_all}
use Rattle.std.proofs.lemmas.Bool.{and_parts, and_from}
use Rattle.qc_model.specs.declared.problem.Scope.{Scope}
use Rattle.qc_model.specs.declared.problem.Condition.{Condition}
use Rattle.qc_model.specs.Content.{Game}
use Rattle.qc_model.specs.Domains.{Values, Box, values_left, is_single, has_empty}
use Rattle.qc_model.specs.Game.{before, allows, is_of_scope}
use Rattle.proof_tree.specs.Tree.{Tree, tree, Body, stuck, goal, cases, Ending, empty, barred, next, branch, Branches, no_more, piece, Case, skip, left_open, go}
use Rattle.proof_tree.specs.Cover.{covered, uncovered, is_cover, box_to}
use Rattle.proof_tree.specs.Place.{position, is_fixed, is_goal, next_scopes, list_after}
use Rattle.proof_tree.specs.Steps.{after_steps}
use Rattle.proof_tree.specs.InPlace.{horizon_below, is_horizon, horizon_in_place, steps_in_place, in_place, body_in_place, ending_in_place, branches_in_place, case_in_place}
use Rattle.proof_alike.proofs.Boxes.{and_both, Look, look_next, empty_same, ahead_same}
use Rattle.proof_alike.proofs.Rules.{allows_same}
use Rattle.proof_alike.proofs.Walks.{Walk, BodyWalk, EndingWalk, BranchesWalk, CaseWalk}

pub fixed_same : (g : Game) (top i : ℕ) (a b : Box) → Look g top i a b → is_fixed g i a ≡ is_fixed g i b
fixed_same g top i a b l = ap (list_all is_single) (ahead_same g top i (before g (suc i)) a b l)

-- no domain is empty, and each variable of the scope has one value left
full_fixed : (g : Game) (top i : ℕ) (a b : Box) → Look g top i a b → (not (has_empty a) && is_fixed g i a) ≡ (not (has_empty b) && is_fixed g i b)
full_fixed g top i a b l = and_both (not (has_empty a)) (is_fixed g i a) (not (has_empty b)) (is_fixed g i b) (ap not (empty_same g top i a b l)) (fixed_same g top i a b l)

module _ (g : Game) (top : ℕ) where
  mutual
    pub placed : (t : Tree) (later : List Scope) (i : ℕ) (d : List Condition) (a b : Box) (h : Option ℕ) → in_place g t later i d a h ≡ true → Look g top i a b →
        Walk g top t later i d a b → in_place g t later i d b h ≡ true
    placed (tree z c) later i d a b h p l w =
        let q = and_parts (horizon_in_place g z later i a h) (body_in_place g c later i d a (horizon_below z h)) p in
        and_from (horizon_in_place g z later i b h) (body_in_place g c later i d b (horizon_below z h)) (w.0 h q.0) (body_placed c later i d a b (horizon_below z h) q.1 l w.1)

    body_placed : (c : Body) (later : List Scope) (i : ℕ) (d : List Condition) (a b : Box) (h : Option ℕ) → body_in_place g c later i d a h ≡ true → Look g top i a b →
        BodyWalk g top c later i d a b → body_in_place g c later i d b h ≡ true
    body_placed stuck later i d a b h p l w = p
    body_placed goal later i d a b h p l w = p
    body_placed (cases steps end) later i d a b h p l w =
        let here = not (is_horizon h i) && not (is_goal later) in
        let q = and_parts (here && steps_in_place g later i d steps a) (ending_in_place g end later i d (after_steps steps a) h) p in
        let r = and_parts here (steps_in_place g later i d steps a) q.0 in
        and_from (here && steps_in_place g later i d steps b) (ending_in_place g end later i d (after_steps steps b) h)
        (and_from here (steps_in_place g later i d steps b) r.0 w.0.legal)
        (ending_placed end later i d (after_steps steps a) (after_steps steps b) h q.1 w.0.after w.1)

    ending_placed : (end : Ending) (later : List Scope) (i : ℕ) (d : List Condition) (a b : Box) (h : Option ℕ) → ending_in_place g end later i d a h ≡ true → Look g top i a b →
        EndingWalk g top end later i d a b → ending_in_place g end later i d b h ≡ true
    ending_placed empty later i d a b h p l w = sym (empty_same g top i a b l) ∙ p
    ending_placed barred later i d a b h p l w =
        sym
        (and_both (not (has_empty a) && is_fixed g i a) (not (allows g i (position g (suc i) a))) (not (has_empty b) && is_fixed g i b) (not (allows g i (position g (suc i) b)))
        (full_fixed g top i a b l) (ap not (allows_same g top i (suc i) a b (omega arith) l)))
        ∙ p
    ending_placed (next t) later i d a b h p l w =
        let x = list_after g later d in
        let q = and_parts (not (has_empty a) && is_fixed g i a && allows g i (position g (suc i) a)) (in_place g t (next_scopes later) (suc i) x a h) p in
        and_from (not (has_empty b) && is_fixed g i b && allows g i (position g (suc i) b)) (in_place g t (next_scopes later) (suc i) x b h)
        (sym
        (and_both (not (has_empty a) && is_fixed g i a) (allows g i (position g (suc i) a)) (not (has_empty b) && is_fixed g i b) (allows g i (position g (suc i) b))
        (full_fixed g top i a b l) (allows_same g top i (suc i) a b (omega arith) l))
        ∙ q.0)
        (placed t (next_scopes later) (suc i) x a b h q.1 (look_next g top i a b l) w)
    ending_placed (branch x bs) later i d a b h p l w =
        let own = is_of_scope g i x.0 in
        let q = and_parts (not (has_empty a) && own && not (is_single (values_left a x.0))) (branches_in_place g bs x.0 (values_left a x.0) later i d a h) p in
        and_from (not (has_empty b) && own && not (is_single (values_left b x.0))) (branches_in_place g bs x.0 (values_left b x.0) later i d b h)
        (sym
        (and_both (not (has_empty a) && own) (not (is_single (values_left a x.0))) (not (has_empty b) && own) (not (is_single (values_left b x.0)))
        (ap (λ e. not e && own) (empty_same g top i a b l)) (ap (λ vs. not (is_single vs)) (l.same x.0 w.0)))
        ∙ q.0)
        (subst (λ vs. branches_in_place g bs x.0 vs later i d b h ≡ true) (l.same x.0 w.0) (branches_placed bs x.0 (values_left a x.0) later i d a b h (l.same x.0 w.0) q.1 l w.1))

    branches_placed : (bs : Branches) (x : ℕ) (vs : Values) (later : List Scope) (i : ℕ) (d : List Condition) (a b : Box) (h : Option ℕ) → values_left a x ≡ values_left b x →
        branches_in_place g bs x vs later i d a h ≡ true → Look g top i a b → BranchesWalk g top bs x vs later i d a b → branches_in_place g bs x vs later i d b h ≡ true
    branches_placed no_more x vs later i d a b h e p l w = p
    branches_placed (piece upto c bs) x vs later i d a b h e p l w =
        let us = covered upto vs in
        let q = and_parts (is_cover upto vs && case_in_place g c x us later i d a h) (branches_in_place g bs x (uncovered upto vs) later i d a h) p in
        let r = and_parts (is_cover upto vs) (case_in_place g c x us later i d a h) q.0 in
        and_from (is_cover upto vs && case_in_place g c x us later i d b h) (branches_in_place g bs x (uncovered upto vs) later i d b h)
        (and_from (is_cover upto vs) (case_in_place g c x us later i d b h) r.0 (case_placed c x us later i d a b h e r.1 l w.0))
        (branches_placed bs x (uncovered upto vs) later i d a b h e q.1 l w.1)

    case_placed : (c : Case) (x : ℕ) (vs : Values) (later : List Scope) (i : ℕ) (d : List Condition) (a b : Box) (h : Option ℕ) → values_left a x ≡ values_left b x →
        case_in_place g c x vs later i d a h ≡ true → Look g top i a b → CaseWalk g top c later i d (box_to a x vs) (box_to b x vs) → case_in_place g c x vs later i d b h ≡ true
    case_placed skip x vs later i d a b h e p l w = refl
    case_placed left_open x vs later i d a b h e p l w = refl
    case_placed (go steps end) x vs later i d a b h e p l w =
        let first = box_to a x vs in
        let second = box_to b x vs in
        let q = and_parts (nat_lt (length vs) (length (values_left a x)) && steps_in_place g later i d steps first) (ending_in_place g end later i d (after_steps steps first) h) p in
        let r = and_parts (nat_lt (length vs) (length (values_left a x))) (steps_in_place g later i d steps first) q.0 in
        and_from (nat_lt (length vs) (length (values_left b x)) && steps_in_place g later i d steps second) (ending_in_place g end later i d (after_steps steps second) h)
        (and_from (nat_lt (length vs) (length (values_left b x))) (steps_in_place g later i d steps second) (sym (ap (λ us. nat_lt (length vs) (length us)) e) ∙ r.0) w.0.legal)
        (ending_placed end later i d (after_steps steps first) (after_steps steps second) h q.1 w.0.after w.1)
