-- In a tree in place each scope of the opponent whose leaves are all exact goes on with each of his allowed tuples: the induction over the tree.
use Rattle.std.proofs.Common.{ℕ, suc, Bool, false, ◌&&◌, not, List, [], ◌∷◌, ◌++◌, length, set, refl, Option, None}
use Rattle.std.specs.Prelude.{ℤ, IsTrue, nat_lt}
use Rattle.std.proofs.lemmas.Bool.{and_parts}
use Rattle.qc_model.specs.declared.problem.Scope.{Scope}
use Rattle.qc_model.specs.declared.problem.Condition.{Condition}
use Rattle.qc_model.specs.Content.{Game}
use Rattle.qc_model.specs.Domains.{Values, Box, declared_box, values_left, is_single, has_empty}
use Rattle.qc_model.specs.Game.{allows, is_of_scope}
use Rattle.qc_model.specs.Valid.{IsValid}
use Rattle.proof_tree.specs.declared.tree.Step.{Step}
use Rattle.proof_tree.specs.Tree.{Tree, tree, Body, stuck, goal, cases, Ending, empty, barred, next, branch, Branches, no_more, piece, Case, skip, left_open, go}
use Rattle.proof_tree.specs.Place.{position, is_fixed, list_after, tracked_variable}
use Rattle.proof_tree.specs.Steps.{after_steps}
use Rattle.proof_tree.specs.Cover.{covered, uncovered, is_cover}
use Rattle.proof_tree.specs.InPlace.{horizon_below, is_horizon, horizon_in_place, steps_in_place, in_place, body_in_place, ending_in_place, branches_in_place, case_in_place, root_in_place}
use Rattle.proof_tree.specs.Read.{marks, leaves}
use Rattle.proof_tree.specs.Fair.{bounded_within}
use Rattle.proof_meaning.specs.Answered.{Answered, BodyAnswered, EndingAnswered, BranchesAnswered, CaseAnswered}
use Rattle.proof_meaning.proofs.AnsweredLeaves.{node_answered}
use Rattle.proof_meaning.proofs.Boxes.{differ}
use Rattle.proof_meaning.proofs.LeafLists.{LeavesMean}
use Rattle.proof_meaning.proofs.NodeStates.{NodeState, PartState, CasesState, root_state, under_horizon, into_part, visible_after, past_steps, all_values, case_values, into_case, next_node}
use Rattle.proof_meaning.proofs.Premises.{IsSound, sound_of}
use Rattle.proof_meaning.proofs.StepRules.{flag_after, steps_mean}
use Rattle.proof_meaning.proofs.Trees.{ending_means}

-- the leaves of a node mean what they say
here_mean : (g : Game) (r : IsSound g) (steps : List Step) (end : Ending) (s : Scope) (later : List Scope) (i : ℕ) (d : List Condition) (a : List ℤ) (box : Box) (b : Bool) (h : Option ℕ) → PartState g b h s later i d a box →
    IsTrue (steps_in_place g (s ∷ later) i d steps box) → IsTrue (ending_in_place g end (s ∷ later) i d (after_steps steps box) h) →
    LeavesMean g b s.kind later i (list_after g (s ∷ later) d) a box (marks g (s ∷ later) i d steps box ++ leaves g end (s ∷ later) i d (after_steps steps box))
here_mean g r steps end s later i d a box b h p placed e =
    let x = list_after g (s ∷ later) d in
    let after = after_steps steps box in
    let q = past_steps g r steps b h s later i d a box placed p in
    steps_mean g r s later i x a p.count (visible_after g b h s later i d a box p) (tracked_variable g (s ∷ later) i x) refl steps b box (leaves g end (s ∷ later) i d after) placed p.fair
    (ending_means g r end s later i d after a (flag_after steps b) h q.count q.sees q.asked q.fair q.blocked e)

mutual
  pub tree_answered : (g : Game) (r : IsSound g) (t : Tree) (later : List Scope) (i : ℕ) (d : List Condition) (box : Box) (b : Bool) (h : Option ℕ) → NodeState g b h later i d (position g i box) box →
      IsTrue (in_place g t later i d box h) → Answered g t later i d box
  tree_answered g r (tree z c) later i d box b h n e =
      let p = and_parts (horizon_in_place g z later i box h) (body_in_place g c later i d box (horizon_below z h)) e in
      body_answered g r c later i d box b (horizon_below z h) (under_horizon g r z b h later i d (position g i box) box p.0 n) p.1

  body_answered : (g : Game) (r : IsSound g) (c : Body) (later : List Scope) (i : ℕ) (d : List Condition) (box : Box) (b : Bool) (h : Option ℕ) → NodeState g b h later i d (position g i box) box →
      IsTrue (body_in_place g c later i d box h) → BodyAnswered g c later i d box
  body_answered g r stuck later i d box b h n e = tt
  body_answered g r goal later i d box b h n e = tt
  body_answered g r (cases steps end) [] i d box b h n e =
      let p = and_parts _ (ending_in_place g end [] i d (after_steps steps box) h) e in
      let p1 = and_parts _ (steps_in_place g [] i d steps box) p.0 in
      absurd (differ (and_parts (not (is_horizon h i)) false p1.0).1)
  body_answered g r (cases steps end) (s ∷ later) i d box b h n e =
      let p = and_parts _ (ending_in_place g end (s ∷ later) i d (after_steps steps box) h) e in
      let p1 = and_parts _ (steps_in_place g (s ∷ later) i d steps box) p.0 in
      let a = position g i box in
      let within = bounded_within s.kind b in
      let part = into_part g b h s later i d a box n in
      let m = here_mean g r steps end s later i d a box within h part p1.1 p.1 in (
        node_answered g b s.kind s.condition later i (list_after g (s ∷ later) d) a box (marks g (s ∷ later) i d steps box ++ leaves g end (s ∷ later) i d (after_steps steps box)) m n.fair n.full,
        ending_answered g r end s later i d (after_steps steps box) a (flag_after steps within) h (past_steps g r steps within h s later i d a box p1.1 part) p.1,
      )

  -- later has the scopes after i
  ending_answered : (g : Game) (r : IsSound g) (end : Ending) (s : Scope) (later : List Scope) (i : ℕ) (d : List Condition) (box : Box) (a : List ℤ) (b : Bool) (h : Option ℕ) → PartState g b h s later i d a box →
      IsTrue (ending_in_place g end (s ∷ later) i d box h) → EndingAnswered g end (s ∷ later) i d box
  ending_answered g r empty s later i d box a b h p e = tt
  ending_answered g r barred s later i d box a b h p e = tt
  ending_answered g r (next u) s later i d box a b h p e =
      let x = list_after g (s ∷ later) d in
      let q = and_parts (not (has_empty box) && is_fixed g i box && allows g i (position g (suc i) box)) (in_place g u later (suc i) x box h) e in
      tree_answered g r u later (suc i) x box b h (next_node g b h s later i d a box q.0 p) q.1
  ending_answered g r (branch x bs) s later i d box a b h p e =
      let q = and_parts _ (branches_in_place g bs x.0 (values_left box x.0) (s ∷ later) i d box h) e in
      let q1 = and_parts (not (has_empty box) && is_of_scope g i x.0) (not (is_single (values_left box x.0))) q.0 in
      branches_answered g r bs x.0 (values_left box x.0) s later i d box a b h p (all_values g i a box x.0 b h s later d q1.0 p) q.1

  branches_answered : (g : Game) (r : IsSound g) (bs : Branches) (x : ℕ) (vs : Values) (s : Scope) (later : List Scope) (i : ℕ) (d : List Condition) (box : Box) (a : List ℤ) (b : Bool) (h : Option ℕ) → PartState g b h s later i d a box →
      CasesState g i box x vs → IsTrue (branches_in_place g bs x vs (s ∷ later) i d box h) → BranchesAnswered g bs x vs (s ∷ later) i d box
  branches_answered g r no_more x vs s later i d box a b h p c e = tt
  branches_answered g r (piece upto one bs) x vs s later i d box a b h p c e =
      let us = covered upto vs in
      let rest = uncovered upto vs in
      let q = and_parts _ (branches_in_place g bs x rest (s ∷ later) i d box h) e in
      let q1 = and_parts (is_cover upto vs) (case_in_place g one x us (s ∷ later) i d box h) q.0 in
      let parts = case_values g i box x vs upto c in
      (case_answered g r one x us s later i d box a b h p parts.0 q1.1, branches_answered g r bs x rest s later i d box a b h p parts.1 q.1)

  case_answered : (g : Game) (r : IsSound g) (one : Case) (x : ℕ) (us : Values) (s : Scope) (later : List Scope) (i : ℕ) (d : List Condition) (box : Box) (a : List ℤ) (b : Bool) (h : Option ℕ) → PartState g b h s later i d a box →
      CasesState g i box x us → IsTrue (case_in_place g one x us (s ∷ later) i d box h) → CaseAnswered g one (s ∷ later) i d (set box x us)
  case_answered g r skip x us s later i d box a b h p c e = tt
  case_answered g r left_open x us s later i d box a b h p c e = tt
  case_answered g r (go steps end) x us s later i d box a b h p c e =
      let small = set box x us in
      let q = and_parts _ (ending_in_place g end (s ∷ later) i d (after_steps steps small) h) e in
      let q1 = and_parts (nat_lt (length us) (length (values_left box x))) (steps_in_place g (s ∷ later) i d steps small) q.0 in
      ending_answered g r end s later i d (after_steps steps small) a (flag_after steps b) h (past_steps g r steps b h s later i d a small q1.1 (into_case g x us b h s later i d a box c p)) q.1

pub root_answered : (g : Game) (t : Tree) → IsValid g → IsTrue (root_in_place g t) → Answered g t g.scopes 0 [] (declared_box g)
root_answered g t valid e = let r = sound_of g valid in tree_answered g r t g.scopes 0 [] (declared_box g) false None (root_state g r) e
