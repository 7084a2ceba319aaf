-- A tree takes nothing after what settles it alike.
use Rattle.std.proofs.Common.{◌≡◌, true, ℕ, suc, Bool, false, not, ◌&&◌, List, [], ◌∷◌, refl, sym, ap, ◌∙◌}
use Rattle.std.specs.List.{list_any}
use Rattle.qc_model.specs.declared.problem.Scope.{Scope}
use Rattle.qc_model.specs.declared.problem.Condition.{Condition}
use Rattle.qc_model.specs.Content.{Game}
use Rattle.qc_model.specs.Domains.{Values, Box, values_left}
use Rattle.qc_model.specs.Verdict.{Verdict, Seen, seen_barred, seen_skipped, seen_bound, seen_node, is_unknown}
use Rattle.proof_tree.specs.Tree.{Tree, tree, Body, stuck, goal, cases, Ending, empty, barred, next, branch, Branches, no_more, piece, Case, skip, left_open, go}
use Rattle.proof_tree.specs.Cover.{covered, uncovered, box_to}
use Rattle.proof_tree.specs.Place.{next_scopes, list_after}
use Rattle.proof_tree.specs.Steps.{after_steps}
use Rattle.proof_tree.specs.Finding.{Leaf, leaf_barred, leaf_skipped, leaf_bound, leaf_node, comes_to, seen_of}
use Rattle.proof_tree.specs.Read.{read_body, case_leaves}
use Rattle.proof_tree.specs.Order.{has_go, skips, settles, settled_last, body_settled_last, ending_settled_last, branches_settled_last, case_settled_last}
use Rattle.proof_alike.specs.Alike.{is_looked_at}
use Rattle.proof_alike.proofs.Boxes.{and_both, or_both, Look, look_set, look_next}
use Rattle.proof_alike.proofs.Reading.{seen, body_alike, case_alike}
use Rattle.proof_alike.proofs.Walks.{Walk, BodyWalk, EndingWalk, BranchesWalk, CaseWalk, Named, named_next}

-- the leaf goes on, to a node whose verdict passes the test
abbrev passes : (Verdict → Bool) → Seen → Bool
passes p seen_barred = false
passes p seen_skipped = false
passes p (seen_bound m) = false
passes p (seen_node v) = p v

leaf_passes : (p : Verdict → Bool) (x : Leaf) → comes_to p x ≡ passes p (seen_of x)
leaf_passes p leaf_barred = refl
leaf_passes p leaf_skipped = refl
leaf_passes p (leaf_bound m) = refl
leaf_passes p (leaf_node w f) = refl

some_passes : (p : Verdict → Bool) (ls : List Leaf) → list_any (comes_to p) ls ≡ list_any (passes p) (seen ls)
some_passes p [] = refl
some_passes p (x ∷ ls) = or_both (comes_to p x) (list_any (comes_to p) ls) (passes p (seen_of x)) (list_any (passes p) (seen ls)) (leaf_passes p x) (some_passes p ls)

some_same : (p : Verdict → Bool) (ls ms : List Leaf) → seen ls ≡ seen ms → list_any (comes_to p) ls ≡ list_any (comes_to p) ms
some_same p ls ms e = some_passes p ls ∙ (ap (list_any (passes p)) e ∙ sym (some_passes p ms))

module _ (g : Game) (top : ℕ) where
  mutual
    pub settled_same : (t : Tree) (later : List Scope) (i : ℕ) (d : List Condition) (a b : Box) → Named g later d → Look g top i a b → Walk g top t later i d a b →
        settled_last g t later i d a ≡ settled_last g t later i d b
    settled_same (tree z c) later i d a b n l w = body_same c later i d a b n l w.1

    body_same : (c : Body) (later : List Scope) (i : ℕ) (d : List Condition) (a b : Box) → Named g later d → Look g top i a b → BodyWalk g top c later i d a b →
        body_settled_last g c later i d a ≡ body_settled_last g c later i d b
    body_same stuck later i d a b n l w = refl
    body_same goal later i d a b n l w = refl
    body_same (cases steps end) later i d a b n l w =
        let r = body_alike g top (cases steps end) later i d a b n l w in
        and_both (not (skips end && is_unknown (read_body g (cases steps end) later i d a).verdict)) (ending_settled_last g end later i d (after_steps steps a))
        (not (skips end && is_unknown (read_body g (cases steps end) later i d b).verdict)) (ending_settled_last g end later i d (after_steps steps b))
        (ap (λ v. not (skips end && is_unknown v)) r.verdict) (ending_same end later i d (after_steps steps a) (after_steps steps b) n w.0.after w.1)

    ending_same : (end : Ending) (later : List Scope) (i : ℕ) (d : List Condition) (a b : Box) → Named g later d → Look g top i a b → EndingWalk g top end later i d a b →
        ending_settled_last g end later i d a ≡ ending_settled_last g end later i d b
    ending_same empty later i d a b n l w = refl
    ending_same barred later i d a b n l w = refl
    ending_same (next t) later i d a b n l w = settled_same t (next_scopes later) (suc i) (list_after g later d) a b (named_next g later d n) (look_next g top i a b l) w
    ending_same (branch x bs) later i d a b n l w =
        branches_same bs x.0 (values_left a x.0) later i d a b n w.0 l w.1 ∙ ap (λ vs. branches_settled_last g bs x.0 vs later i d b) (l.same x.0 w.0)

    branches_same : (bs : Branches) (x : ℕ) (vs : Values) (later : List Scope) (i : ℕ) (d : List Condition) (a b : Box) → Named g later d → is_looked_at g top x ≡ true → Look g top i a b → BranchesWalk g top bs x vs later i d a b →
        branches_settled_last g bs x vs later i d a ≡ branches_settled_last g bs x vs later i d b
    branches_same no_more x vs later i d a b n o l w = refl
    branches_same (piece upto c bs) x vs later i d a b n o l w =
        let us = covered upto vs in
        let first = box_to a x us in
        let second = box_to b x us in
        let p = settles later (list_after g later d) in
        let k = look_set g top i a b x us o l in
        and_both (case_settled_last g c later i d first && not (has_go bs && list_any (comes_to p) (case_leaves g c later i d first))) (branches_settled_last g bs x (uncovered upto vs) later i d a)
        (case_settled_last g c later i d second && not (has_go bs && list_any (comes_to p) (case_leaves g c later i d second))) (branches_settled_last g bs x (uncovered upto vs) later i d b)
        (and_both (case_settled_last g c later i d first) (not (has_go bs && list_any (comes_to p) (case_leaves g c later i d first)))
        (case_settled_last g c later i d second) (not (has_go bs && list_any (comes_to p) (case_leaves g c later i d second)))
        (case_same c later i d first second n k w.0)
        (ap (λ q. not (has_go bs && q)) (some_same p (case_leaves g c later i d first) (case_leaves g c later i d second) (case_alike g top c later i d first second n k w.0))))
        (branches_same bs x (uncovered upto vs) later i d a b n o l w.1)

    case_same : (c : Case) (later : List Scope) (i : ℕ) (d : List Condition) (a b : Box) → Named g later d → Look g top i a b → CaseWalk g top c later i d a b →
        case_settled_last g c later i d a ≡ case_settled_last g c later i d b
    case_same skip later i d a b n l w = refl
    case_same left_open later i d a b n l w = refl
    case_same (go steps end) later i d a b n l w = ending_same end later i d (after_steps steps a) (after_steps steps b) n w.0.after w.1
