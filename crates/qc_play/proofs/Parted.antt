-- What is told of a part of a scope's own tree: its removals, and what follows them.
use Rattle.std.proofs.Common.{◌≡◌, ℕ, suc, ◌+◌, ◌<◌, true, List, [], ◌∷◌, ◌++◌, length, map, drop, refl, sym, subst, arith, Some, append-nil}
use Rattle.qc_model.specs.declared.problem.Kind.TheVariants.{Exists}
use Rattle.qc_model.specs.declared.problem.VarId.{VarId}
use Rattle.qc_model.specs.Content.{Game}
use Rattle.qc_model.specs.Demands.{demands}
use Rattle.qc_model.specs.Domains.{Box, values_left}
use Rattle.qc_model.specs.Game.{before}
use Rattle.qc_model.specs.Valid.{IsValid}
use Rattle.qc_model.specs.Verdict.{Seen, seen_barred, seen_skipped}
use Rattle.model_arguments.specs.Asked.{is_box_of}
use Rattle.model_levels.specs.Spans.{kind_at}
use Rattle.joins.specs.declared.joins.Joins.{Joins}
use Rattle.joins.specs.Joins.{StandsAt}
use Rattle.joins.proofs.Ends.{ends_none}
use Rattle.proof_tree.specs.declared.tree.Step.{Step}
use Rattle.proof_tree.specs.Counts.{ends_of, ending_ends, branch_ends, case_ends}
use Rattle.proof_tree.specs.Finding.{Finding, Leaf, leaf_barred, leaf_skipped, leaf_node, seen_of}
use Rattle.proof_tree.specs.Place.{position}
use Rattle.proof_tree.specs.Read.{marks}
use Rattle.proof_tree.specs.Steps.{after_steps, step_marks}
use Rattle.proof_tree.specs.Tree.{Tree, Ending, empty, barred, next, branch, Branches, Case, skip, left_open, go}
use Rattle.check_lines.specs.Tracking.{tracked_at}
use Rattle.check_lines.proofs.LedgerTurns.{map_both}
use Rattle.qc_play.specs.declared.gathering.Gathering.{Gathering}
use Rattle.qc_play.specs.Gathers.{Gathers, owner_of, wishes_of, count_before}
use Rattle.qc_play.specs.Walk.{node_finding, end_leaves, part_leaves, pieces_leaves, taken_leaves, marks_seen, HasSeen, Tells}
use Rattle.qc_play.proofs.QuietLeaves.{gathers_barred, gathers_skipped, gathers_marks}
use Rattle.qc_play.proofs.Tellings.{tells_then, tells_as, tells_alone}
use Rattle.qc_play.proofs.TreeSizes.{box_domains, empty_fits, barred_fits, skipped_fits, marks_fit, node_next}

-- no leaf so far
pub seen_none : (g : Game) (i : ℕ) (js : Joins) (x : Gathering) → StandsAt js i [] → Gathers x [] → kind_at g i ≡ Some (owner_of x) → (owner_of x ≡ Exists → wishes_of x ≡ demands g (suc i)) → count_before x ≡ before g i → HasSeen g i js x 0 []
seen_none g i js x stands gathers kind wishes place = record { stands = stands; gathers = gathers; ends = ends_none; kind = kind; wishes = wishes; place = place }

-- other joins that stand for the same
pub seen_joins : (g : Game) (i : ℕ) (js ks : Joins) (x : Gathering) (n : ℕ) (ls : List Leaf) → (StandsAt js i (map seen_of ls) → StandsAt ks i (map seen_of ls)) → HasSeen g i js x n ls → HasSeen g i ks x n ls
seen_joins g i js ks x n ls f h = record { stands = f h.stands; gathers = h.gathers; ends = h.ends; kind = h.kind; wishes = h.wishes; place = h.place }

module _ (g : Game) (i : ℕ) where
  -- removals tell the marks of bounds
  pub steps_told : (js ks : Joins) (x : Gathering) (steps : List Step) (box : Box) → IsValid g → is_box_of g box ≡ true → ((xs : List Seen) → StandsAt js i xs → StandsAt ks i (xs ++ marks_seen g i steps box)) →
      Tells g i js x ks x 0 (marks g (drop i g.scopes) i (demands g i) steps box)
  steps_told js ks x steps box valid d stands =
      let ms = step_marks (tracked_at g i) steps box in
      tells_alone g i js ks x 0 (marks g (drop i g.scopes) i (demands g i) steps box) (λ xs h. subst (λ us. StandsAt ks i (xs ++ us)) (map_both ms) (stands xs h)) (λ ls h. gathers_marks x ls ms h)
      (marks_fit g i steps box (box_domains g box valid.domains d))

  -- and then what follows them
  pub part_told : (js ks us : Joins) (x y : Gathering) (steps : List Step) (e : Ending) (box new : Box) → Tells g i js x ks x 0 (marks g (drop i g.scopes) i (demands g i) steps box) → new ≡ after_steps steps box →
      Tells g i ks x us y (ending_ends e) (end_leaves g e i new) → Tells g i js x us y (ending_ends e) (part_leaves g steps e i box)
  part_told js ks us x y steps e box new f q h =
      let first = marks g (drop i g.scopes) i (demands g i) steps box in
      let last = end_leaves g e i (after_steps steps box) in
      let none : 0 + ending_ends e ≡ ending_ends e = omega arith in
      tells_as g i js us x y (0 + ending_ends e) (ending_ends e) (first ++ last) (first ++ last) none refl
      (tells_then g i js ks us x x y 0 (ending_ends e) first last f (subst (λ b. Tells g i ks x us y (ending_ends e) (end_leaves g e i b)) q h))

  -- ends
  module _ (js ks : Joins) (x y : Gathering) (e : Ending) (box : Box) where
    pub empty_told : e ≡ empty → Tells g i js x js x (ending_ends e) (end_leaves g e i box)
    empty_told q =
        subst (λ u. Tells g i js x js x (ending_ends u) (end_leaves g u i box)) (sym q)
        (tells_alone g i js js x 1 [] (λ xs h. subst (StandsAt js i) (sym (append-nil xs)) h) (λ ls h. subst (Gathers x) (sym (append-nil ls)) h) (empty_fits g i))

    pub barred_told : e ≡ barred → ((xs : List Seen) → StandsAt js i xs → StandsAt ks i (xs ++ seen_barred ∷ [])) → Tells g i js x ks x (ending_ends e) (end_leaves g e i box)
    barred_told q stands =
        subst (λ u. Tells g i js x ks x (ending_ends u) (end_leaves g u i box)) (sym q)
        (tells_alone g i js ks x 1 (leaf_barred ∷ []) stands (gathers_barred x) (barred_fits g i))

    pub next_told : (t : Tree) → e ≡ next t → i < length g.scopes → Tells g i js x ks y (ends_of t) (leaf_node (position g (suc i) box) (node_finding g t (suc i) box) ∷ []) → Tells g i js x ks y (ending_ends e) (end_leaves g e i box)
    next_told t q l h =
        subst (λ u. Tells g i js x ks y (ending_ends u) (end_leaves g u i box)) (sym q)
        (subst (λ (f : Finding). Tells g i js x ks y (ends_of t) (leaf_node (position g (suc i) box) f ∷ [])) (sym (node_next g t i box l)) h)

    pub branch_told : (v : VarId) (bs : Branches) → e ≡ branch v bs → Tells g i js x ks y (branch_ends bs) (pieces_leaves g bs v.0 (values_left box v.0) i box) → Tells g i js x ks y (ending_ends e) (end_leaves g e i box)
    branch_told v bs q h = subst (λ u. Tells g i js x ks y (ending_ends u) (end_leaves g u i box)) (sym q) h

  -- cases
  module _ (js ks : Joins) (x y : Gathering) (c : Case) (box : Box) where
    pub skip_told : c ≡ skip → ((xs : List Seen) → StandsAt js i xs → StandsAt ks i (xs ++ seen_skipped ∷ [])) → Tells g i js x ks x (case_ends c) (taken_leaves g c i box)
    skip_told q stands = subst (λ u. Tells g i js x ks x (case_ends u) (taken_leaves g u i box)) (sym q) (tells_alone g i js ks x 0 (leaf_skipped ∷ []) stands (gathers_skipped x) (skipped_fits g i))

    pub open_told : c ≡ left_open → ((xs : List Seen) → StandsAt js i xs → StandsAt ks i (xs ++ seen_skipped ∷ [])) → Tells g i js x ks x (case_ends c) (taken_leaves g c i box)
    open_told q stands = subst (λ u. Tells g i js x ks x (case_ends u) (taken_leaves g u i box)) (sym q) (tells_alone g i js ks x 0 (leaf_skipped ∷ []) stands (gathers_skipped x) (skipped_fits g i))

    pub go_told : (steps : List Step) (e : Ending) → c ≡ go steps e → Tells g i js x ks y (ending_ends e) (part_leaves g steps e i box) → Tells g i js x ks y (case_ends c) (taken_leaves g c i box)
    go_told steps e q h = subst (λ u. Tells g i js x ks y (case_ends u) (taken_leaves g u i box)) (sym q) h
