-- A tree that foresees a dead end in one box does so in each that looks the same.
use Rattle.std.proofs.Common.{◌≡◌, ℕ, true, suc, List, [], ◌∷◌, subst, Option}
use Rattle.qc_model.specs.declared.problem.Scope.{Scope}
use Rattle.qc_model.specs.declared.problem.Condition.{Condition}
use Rattle.qc_model.specs.Content.{Game}
use Rattle.qc_model.specs.Domains.{Values, Box, values_left}
use Rattle.proof_tree.specs.Tree.{Tree, tree, Body, stuck, goal, cases, Ending, empty, barred, next, branch, Branches, no_more, piece, Case, skip, left_open, go}
use Rattle.proof_tree.specs.Cover.{covered, uncovered, box_to}
use Rattle.proof_tree.specs.Place.{next_scopes, list_after}
use Rattle.proof_tree.specs.Steps.{after_steps}
use Rattle.proof_tree.specs.InPlace.{horizon_below}
use Rattle.proof_tree.specs.Diligent.{SeesAhead, Foresees, BodyForesees, EndingForesees, BranchesForesee, CaseForesees}
use Rattle.proof_alike.specs.Alike.{is_looked_at}
use Rattle.proof_alike.proofs.Boxes.{Look, look_set, look_next}
use Rattle.proof_alike.proofs.Mixed.{none_closed}
use Rattle.proof_alike.proofs.Walks.{Walk, BodyWalk, EndingWalk, BranchesWalk, CaseWalk}

sees_too : (g : Game) (top : ℕ) (later : List Scope) (i : ℕ) (a b : Box) (h : Option ℕ) → Look g top i a b → SeesAhead g later i a h → SeesAhead g later i b h
sees_too g top [] i a b h l f = tt
sees_too g top (s ∷ later) i a b h l f = λ k low high none. f k low high (none_closed g top i (suc k) a b l none)

module _ (g : Game) (top : ℕ) where
  mutual
    pub foresees_too : (t : Tree) (later : List Scope) (i : ℕ) (d : List Condition) (a b : Box) (h : Option ℕ) → Look g top i a b → Walk g top t later i d a b → Foresees g t later i a h → Foresees g t later i b h
    foresees_too (tree z c) later i d a b h l w f = (sees_too g top later i a b (horizon_below z h) l f.0, body_too c later i d a b (horizon_below z h) l w.1 f.1)

    body_too : (c : Body) (later : List Scope) (i : ℕ) (d : List Condition) (a b : Box) (h : Option ℕ) → Look g top i a b → BodyWalk g top c later i d a b → BodyForesees g c later i a h → BodyForesees g c later i b h
    body_too stuck later i d a b h l w f = tt
    body_too goal later i d a b h l w f = tt
    body_too (cases steps end) later i d a b h l w f = ending_too end later i d (after_steps steps a) (after_steps steps b) h w.0.after w.1 f

    ending_too : (end : Ending) (later : List Scope) (i : ℕ) (d : List Condition) (a b : Box) (h : Option ℕ) → Look g top i a b → EndingWalk g top end later i d a b →
        EndingForesees g end later i a h → EndingForesees g end later i b h
    ending_too empty later i d a b h l w f = tt
    ending_too barred later i d a b h l w f = tt
    ending_too (next t) later i d a b h l w f = foresees_too t (next_scopes later) (suc i) (list_after g later d) a b h (look_next g top i a b l) w f
    ending_too (branch x bs) later i d a b h l w f =
        subst (λ vs. BranchesForesee g bs x.0 vs later i b h) (l.same x.0 w.0) (branches_too bs x.0 (values_left a x.0) later i d a b h w.0 l w.1 f)

    branches_too : (bs : Branches) (x : ℕ) (vs : Values) (later : List Scope) (i : ℕ) (d : List Condition) (a b : Box) (h : Option ℕ) → is_looked_at g top x ≡ true → Look g top i a b → BranchesWalk g top bs x vs later i d a b →
        BranchesForesee g bs x vs later i a h → BranchesForesee g bs x vs later i b h
    branches_too no_more x vs later i d a b h o l w f = tt
    branches_too (piece upto c bs) x vs later i d a b h o l w f =
        let us = covered upto vs in
        (case_too c later i d (box_to a x us) (box_to b x us) h (look_set g top i a b x us o l) w.0 f.0, branches_too bs x (uncovered upto vs) later i d a b h o l w.1 f.1)

    case_too : (c : Case) (later : List Scope) (i : ℕ) (d : List Condition) (a b : Box) (h : Option ℕ) → Look g top i a b → CaseWalk g top c later i d a b → CaseForesees g c later i a h → CaseForesees g c later i b h
    case_too skip later i d a b h l w f = tt
    case_too left_open later i d a b h l w f = tt
    case_too (go steps end) later i d a b h l w f = ending_too end later i d (after_steps steps a) (after_steps steps b) h w.0.after w.1 f
