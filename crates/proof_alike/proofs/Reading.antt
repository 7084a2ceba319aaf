-- A tree comes to the same verdict, by leaves that come to the same.
use Rattle.std.proofs.Common.{◌≡◌, ℕ, suc, cond, Bool, true, false, List, [], ◌∷◌, ◌++◌, map, refl, sym, ap, ◌∙◌, arith, ℤ, Option}
use Rattle.std.proofs.lemmas.List.{map-append}
use Rattle.qc_model.specs.declared.problem.Kind.{Kind}
use Rattle.qc_model.specs.declared.problem.Kind.TheVariants.{Exists, Forall}
use Rattle.qc_model.specs.declared.problem.Target.{Target}
use Rattle.qc_model.specs.declared.problem.Target.TheVariants.{Var, Aggregate as Agg}
use Rattle.qc_model.specs.declared.problem.Scope.{Scope}
use Rattle.qc_model.specs.declared.problem.Condition.{Condition}
use Rattle.qc_model.specs.Content.{Game}
use Rattle.qc_model.specs.Domains.{Values, Box, values_left}
use Rattle.qc_model.specs.Game.{before, allows}
use Rattle.qc_model.specs.Demands.{demands_after}
use Rattle.qc_model.specs.Verdict.{lost, exact, Seen, seen_node, is_lost, is_exact, some_node, each_node, exact_vectors}
use Rattle.qc_model.specs.ExistsVerdict.{exists_verdict, exists_own}
use Rattle.qc_model.specs.ForallVerdict.{entry_value, entry_values, numbers_for, bounded_forall, forall_verdict, goal_verdict}
use Rattle.proof_tree.specs.declared.tree.Step.{Step}
use Rattle.proof_tree.specs.Tree.{Tree, tree, Body, stuck, goal, cases, Ending, empty, barred, next, branch, Branches, no_more, piece, Case, skip, left_open, go}
use Rattle.proof_tree.specs.Cover.{covered, uncovered, box_to}
use Rattle.proof_tree.specs.Place.{position, next_scopes, list_after}
use Rattle.proof_tree.specs.Steps.{after_steps}
use Rattle.proof_tree.specs.Finding.{Finding, Leaf, leaf_bound, seen_of, kind_finding, scope_finding, kind_stuck, stuck_finding, goal_finding}
use Rattle.proof_tree.specs.Read.{marks, read, read_body, leaves, branch_leaves, case_leaves}
use Rattle.proof_alike.specs.Alike.{is_looked_at}
use Rattle.proof_alike.proofs.Boxes.{Look, look_set, look_next}
use Rattle.proof_alike.proofs.Filling.{same_number}
use Rattle.proof_alike.proofs.Named.{IsNamed, AreNamed, named_looks}
use Rattle.proof_alike.proofs.Positions.{value_same}
use Rattle.proof_alike.proofs.Rules.{allows_same}
use Rattle.proof_alike.proofs.Walks.{OwnSteps, Walk, BodyWalk, EndingWalk, BranchesWalk, CaseWalk, Named, named_next}

-- the plans may differ: they have the values of a position
pub record FindingsAlike (f h : Finding) : Type 0 where
  pub verdict : f.verdict ≡ h.verdict
  pub own : f.own ≡ h.own

-- the same of each of the leaves, in order, but for the positions and the plans
abbrev pub seen : List Leaf → List Seen
seen ls = map seen_of ls

-- the values of a list at a position
entry_same : (g : Game) (top i k : ℕ) (a b : Box) (ns : ℕ → List ℤ) (t : Target) → IsNamed g t → Look g top i a b → entry_value g (position g k a) ns t ≡ entry_value g (position g k b) ns t
entry_same g top i k a b ns (Var x) h l = value_same (before g k) x.0 a b (l.same x.0 (named_looks g top x.0 (h x.0 (same_number x.0))))
entry_same g top i k a b ns (Agg q) h l = refl

entries_same : (g : Game) (top i k : ℕ) (a b : Box) (ns : ℕ → List ℤ) (d : List Condition) → AreNamed g d → Look g top i a b →
    entry_values g d (position g k a) ns ≡ entry_values g d (position g k b) ns
entries_same g top i k a b ns [] h l = refl
entries_same g top i k a b ns (c ∷ d) h l =
    ap (λ v. v ∷ entry_values g d (position g k a) ns) (entry_same g top i k a b ns c.target h.0 l)
    ∙ ap (λ vs. entry_value g (position g k b) ns c.target ∷ vs) (entries_same g top i k a b ns d h.1 l)

forall_same : (g : Game) (top i : ℕ) (a b : Box) (d : List Condition) (xs : List Seen) → AreNamed g d → Look g top i a b → forall_verdict g d (position g i a) xs ≡ forall_verdict g d (position g i b) xs
forall_same g top i a b d xs h l = ap (λ vs. cond (some_node is_lost xs) lost (cond (each_node is_exact xs) (exact vs) (bounded_forall g d xs))) (entries_same g top i i a b (numbers_for d (exact_vectors xs)) d h l)

-- what the leaves come to
kind_alike : (k : Kind) (own : Option Condition) (g : Game) (top i : ℕ) (d : List Condition) (a b : Box) (ls ms : List Leaf) → AreNamed g d → Look g top i a b → seen ls ≡ seen ms →
    FindingsAlike (kind_finding k own g i d (position g i a) ls) (kind_finding k own g i d (position g i b) ms)
kind_alike Exists own g top i d a b ls ms h l e = record {
  verdict = ap (exists_verdict own (demands_after g Exists own d)) e;
  own = ap (exists_own own (demands_after g Exists own d)) e;
}
kind_alike Forall own g top i d a b ls ms h l e = record {
  verdict = ap (forall_verdict g d (position g i a)) e ∙ forall_same g top i a b d (seen ms) h l;
  own = refl;
}

scope_alike : (later : List Scope) (g : Game) (top i : ℕ) (d : List Condition) (a b : Box) (ls ms : List Leaf) → AreNamed g d → Look g top i a b → seen ls ≡ seen ms →
    FindingsAlike (scope_finding later g i d (position g i a) ls) (scope_finding later g i d (position g i b) ms)
scope_alike [] g top i d a b ls ms h l e = record { verdict = refl; own = refl }
scope_alike (s ∷ later) g top i d a b ls ms h l e = kind_alike s.kind s.condition g top i d a b ls ms h l e

stuck_kind : (k : Kind) (g : Game) (top i : ℕ) (d : List Condition) (a b : Box) → AreNamed g d → Look g top i a b → FindingsAlike (kind_stuck k g d (position g i a)) (kind_stuck k g d (position g i b))
stuck_kind Exists g top i d a b h l = record { verdict = refl; own = refl }
stuck_kind Forall g top i d a b h l = record { verdict = ap exact (entries_same g top i i a b (numbers_for d []) d h l); own = refl }

stuck_alike : (later : List Scope) (g : Game) (top i : ℕ) (d : List Condition) (a b : Box) → AreNamed g d → Look g top i a b → FindingsAlike (stuck_finding later g d (position g i a)) (stuck_finding later g d (position g i b))
stuck_alike [] g top i d a b h l = record { verdict = refl; own = refl }
stuck_alike (s ∷ later) g top i d a b h l = stuck_kind s.kind g top i d a b h l

goal_same : (g : Game) (top i : ℕ) (d : List Condition) (a b : Box) (p : Bool) → AreNamed g d → Look g top i a b → goal_verdict g p d (position g i a) ≡ goal_verdict g p d (position g i b)
goal_same g top i d a b true h l = ap exact (entries_same g top i i a b (numbers_for d []) d h l)
goal_same g top i d a b false h l = refl

goal_alike : (g : Game) (top i : ℕ) (d : List Condition) (a b : Box) → AreNamed g d → Look g top i a b → FindingsAlike (goal_finding g i d (position g i a)) (goal_finding g i d (position g i b))
goal_alike g top i d a b h l = record {
  verdict = ap (λ p. goal_verdict g p d (position g i a)) (allows_same g top i i a b (omega arith) l) ∙ goal_same g top i d a b (allows g i (position g i b)) h l;
  own = refl;
}

-- lists of leaves, one after another
pub seen_both : (ls ms us vs : List Leaf) → seen ls ≡ seen us → seen ms ≡ seen vs → seen (ls ++ ms) ≡ seen (us ++ vs)
seen_both ls ms us vs e h = map-append seen_of ls ms ∙ (ap (λ xs. xs ++ seen ms) e ∙ ap (λ xs. seen us ++ xs) h) ∙ sym (map-append seen_of us vs)

marks_same : (g : Game) (top : ℕ) (later : List Scope) (i : ℕ) (d : List Condition) (steps : List Step) (a b : Box) → OwnSteps g top later i d steps a b → seen (marks g later i d steps a) ≡ seen (marks g later i d steps b)
marks_same g top later i d steps a b s = ap (λ ms. seen (map leaf_bound ms)) s.marks

module _ (g : Game) (top : ℕ) where
  mutual
    pub reads_alike : (t : Tree) (later : List Scope) (i : ℕ) (d : List Condition) (a b : Box) → Named g later d → Look g top i a b → Walk g top t later i d a b →
        FindingsAlike (read g t later i d a) (read g t later i d b)
    reads_alike (tree z c) later i d a b n l w = body_alike c later i d a b n l w.1

    pub body_alike : (c : Body) (later : List Scope) (i : ℕ) (d : List Condition) (a b : Box) → Named g later d → Look g top i a b → BodyWalk g top c later i d a b →
        FindingsAlike (read_body g c later i d a) (read_body g c later i d b)
    body_alike stuck later i d a b n l w = stuck_alike later g top i d a b n.list l
    body_alike goal later i d a b n l w = goal_alike g top i d a b n.list l
    body_alike (cases steps end) later i d a b n l w =
        let after = after_steps steps a in
        let same = after_steps steps b in
        scope_alike later g top i d a b (marks g later i d steps a ++ leaves g end later i d after) (marks g later i d steps b ++ leaves g end later i d same) n.list l
        (seen_both (marks g later i d steps a) (leaves g end later i d after) (marks g later i d steps b) (leaves g end later i d same) (marks_same g top later i d steps a b w.0)
        (leaves_alike end later i d after same n w.0.after w.1))

    pub leaves_alike : (end : Ending) (later : List Scope) (i : ℕ) (d : List Condition) (a b : Box) → Named g later d → Look g top i a b → EndingWalk g top end later i d a b →
        seen (leaves g end later i d a) ≡ seen (leaves g end later i d b)
    leaves_alike empty later i d a b n l w = refl
    leaves_alike barred later i d a b n l w = refl
    leaves_alike (next t) later i d a b n l w =
        let r = reads_alike t (next_scopes later) (suc i) (list_after g later d) a b (named_next g later d n) (look_next g top i a b l) w in
        ap (λ v. seen_node v ∷ []) r.verdict
    leaves_alike (branch x bs) later i d a b n l w =
        branch_alike bs x.0 (values_left a x.0) later i d a b n w.0 l w.1 ∙ ap (λ vs. seen (branch_leaves g bs x.0 vs later i d b)) (l.same x.0 w.0)

    branch_alike : (bs : Branches) (x : ℕ) (vs : Values) (later : List Scope) (i : ℕ) (d : List Condition) (a b : Box) → Named g later d → is_looked_at g top x ≡ true → Look g top i a b → BranchesWalk g top bs x vs later i d a b →
        seen (branch_leaves g bs x vs later i d a) ≡ seen (branch_leaves g bs x vs later i d b)
    branch_alike no_more x vs later i d a b n o l w = refl
    branch_alike (piece upto c bs) x vs later i d a b n o l w =
        let us = covered upto vs in
        seen_both (case_leaves g c later i d (box_to a x us)) (branch_leaves g bs x (uncovered upto vs) later i d a) (case_leaves g c later i d (box_to b x us)) (branch_leaves g bs x (uncovered upto vs) later i d b)
        (case_alike c later i d (box_to a x us) (box_to b x us) n (look_set g top i a b x us o l) w.0) (branch_alike bs x (uncovered upto vs) later i d a b n o l w.1)

    pub case_alike : (c : Case) (later : List Scope) (i : ℕ) (d : List Condition) (a b : Box) → Named g later d → Look g top i a b → CaseWalk g top c later i d a b →
        seen (case_leaves g c later i d a) ≡ seen (case_leaves g c later i d b)
    case_alike skip later i d a b n l w = refl
    case_alike left_open later i d a b n l w = refl
    case_alike (go steps end) later i d a b n l w =
        seen_both (marks g later i d steps a) (leaves g end later i d (after_steps steps a)) (marks g later i d steps b) (leaves g end later i d (after_steps steps b)) (marks_same g top later i d steps a b w.0)
        (leaves_alike end later i d (after_steps steps a) (after_steps steps b) n w.0.after w.1)
