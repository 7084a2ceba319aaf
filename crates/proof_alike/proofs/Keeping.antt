-- A tree keeps its incumbents alike.
use Rattle.std.proofs.Common.{◌≡◌, true, ℕ, suc, not, List, [], ◌++◌, map, refl, ap, ◌∙◌, ℤ, Option, Some, None}
use Rattle.std.specs.List.{list_all}
use Rattle.qc_model.specs.declared.problem.Scope.{Scope}
use Rattle.qc_model.specs.declared.problem.Condition.{Condition}
use Rattle.qc_model.specs.Content.{Game}
use Rattle.qc_model.specs.Domains.{Values, Box, values_left}
use Rattle.qc_model.specs.Optimal.{is_better}
use Rattle.qc_model.specs.Verdict.{exact_vectors, first_value}
use Rattle.proof_tree.specs.Tree.{Tree, tree, Body, stuck, goal, cases, Ending, empty, barred, next, branch, Branches, no_more, piece, Case, skip, left_open, go}
use Rattle.proof_tree.specs.Cover.{covered, uncovered, box_to}
use Rattle.proof_tree.specs.Place.{Tracked, next_scopes, list_after, tracked_variable}
use Rattle.proof_tree.specs.Steps.{after_steps}
use Rattle.proof_tree.specs.Read.{case_leaves}
use Rattle.proof_tree.specs.Incumbents.{has_no_worse, first_values, keeps, body_keeps, ending_keeps, branches_keep, case_keeps}
use Rattle.proof_alike.specs.Alike.{is_looked_at}
use Rattle.proof_alike.proofs.Boxes.{and_both, Look, look_set, look_next}
use Rattle.proof_alike.proofs.Named.{TrackedNamed, named_looks, list_named, tracked_named}
use Rattle.proof_alike.proofs.Reading.{case_alike}
use Rattle.proof_alike.proofs.Walks.{Walk, BodyWalk, EndingWalk, BranchesWalk, CaseWalk, Named, named_next}

none_worse : (g : Game) (top i : ℕ) (t : Option Tracked) (reached : List ℤ) (a b : Box) → TrackedNamed g t → Look g top i a b → has_no_worse t reached a ≡ has_no_worse t reached b
none_worse g top i None reached a b h l = refl
none_worse g top i (Some t) reached a b h l =
    ap (λ vs. list_all (λ v. list_all (λ n. not (is_better t.sense n v)) reached) vs) (l.same t.variable (named_looks g top t.variable h))

own_worse : (g : Game) (top : ℕ) (later : List Scope) (i : ℕ) (d : List Condition) (reached : List ℤ) (a b : Box) → Named g later d → Look g top i a b →
    has_no_worse (tracked_variable g later i (list_after g later d)) reached a ≡ has_no_worse (tracked_variable g later i (list_after g later d)) reached b
own_worse g top later i d reached a b n l =
    let x = list_after g later d in
    none_worse g top i (tracked_variable g later i x) reached a b (tracked_named g later i x (list_named g later d n.scopes n.list)) l

module _ (g : Game) (top : ℕ) where
  mutual
    pub keeps_alike : (t : Tree) (later : List Scope) (i : ℕ) (d : List Condition) (a b : Box) → Named g later d → Look g top i a b → Walk g top t later i d a b → keeps g t later i d a ≡ keeps g t later i d b
    keeps_alike (tree z c) later i d a b n l w = body_same c later i d a b n l w.1

    body_same : (c : Body) (later : List Scope) (i : ℕ) (d : List Condition) (a b : Box) → Named g later d → Look g top i a b → BodyWalk g top c later i d a b →
        body_keeps g c later i d a ≡ body_keeps g c later i d b
    body_same stuck later i d a b n l w = refl
    body_same goal later i d a b n l w = refl
    body_same (cases steps end) later i d a b n l w = ending_same end later i d (after_steps steps a) (after_steps steps b) [] n w.0.after w.1

    ending_same : (end : Ending) (later : List Scope) (i : ℕ) (d : List Condition) (a b : Box) (reached : List ℤ) → Named g later d → Look g top i a b → EndingWalk g top end later i d a b →
        ending_keeps g end later i d a reached ≡ ending_keeps g end later i d b reached
    ending_same empty later i d a b reached n l w = refl
    ending_same barred later i d a b reached n l w = refl
    ending_same (next t) later i d a b reached n l w =
        let x = list_after g later d in
        let v = tracked_variable g later i x in
        and_both (has_no_worse v reached a) (keeps g t (next_scopes later) (suc i) x a) (has_no_worse v reached b) (keeps g t (next_scopes later) (suc i) x b)
        (own_worse g top later i d reached a b n l) (keeps_alike t (next_scopes later) (suc i) x a b (named_next g later d n) (look_next g top i a b l) w)
    ending_same (branch x bs) later i d a b reached n l w =
        let v = tracked_variable g later i (list_after g later d) in
        and_both (has_no_worse v reached a) (branches_keep g bs x.0 (values_left a x.0) later i d a reached) (has_no_worse v reached b) (branches_keep g bs x.0 (values_left b x.0) later i d b reached)
        (own_worse g top later i d reached a b n l)
        (branches_same bs x.0 (values_left a x.0) later i d a b reached n w.0 l w.1 ∙ ap (λ vs. branches_keep g bs x.0 vs later i d b reached) (l.same x.0 w.0))

    branches_same : (bs : Branches) (x : ℕ) (vs : Values) (later : List Scope) (i : ℕ) (d : List Condition) (a b : Box) (reached : List ℤ) → Named g later d → is_looked_at g top x ≡ true → Look g top i a b → BranchesWalk g top bs x vs later i d a b →
        branches_keep g bs x vs later i d a reached ≡ branches_keep g bs x vs later i d b reached
    branches_same no_more x vs later i d a b reached n o l w = refl
    branches_same (piece upto c bs) x vs later i d a b reached n o l w =
        let us = covered upto vs in
        let rest = uncovered upto vs in
        let first = box_to a x us in
        let second = box_to b x us in
        let k = look_set g top i a b x us o l in
        let more = reached ++ first_values (case_leaves g c later i d first) in
        and_both (case_keeps g c later i d first reached) (branches_keep g bs x rest later i d a more)
        (case_keeps g c later i d second reached) (branches_keep g bs x rest later i d b (reached ++ first_values (case_leaves g c later i d second)))
        (case_same c later i d first second reached n k w.0)
        (branches_same bs x rest later i d a b more n o l w.1
        ∙ ap (λ xs. branches_keep g bs x rest later i d b (reached ++ map first_value (exact_vectors xs))) (case_alike g top c later i d first second n k w.0))

    case_same : (c : Case) (later : List Scope) (i : ℕ) (d : List Condition) (a b : Box) (reached : List ℤ) → Named g later d → Look g top i a b → CaseWalk g top c later i d a b →
        case_keeps g c later i d a reached ≡ case_keeps g c later i d b reached
    case_same skip later i d a b reached n l w = refl
    case_same left_open later i d a b reached n l w = refl
    case_same (go steps end) later i d a b reached n l w = ending_same end later i d (after_steps steps a) (after_steps steps b) reached n w.0.after w.1
