-- What stands in place below a part that does.
use Rattle.std.proofs.Common.{◌≡◌, ℕ, zero, suc, ◌<◌, ◌≤◌, Bool, true, false, not, ◌&&◌, List, [], ◌∷◌, length, drop, refl, subst, arith, Option, ℤ}
use Rattle.std.specs.Prelude.{nat_lt}
use Rattle.std.proofs.lemmas.Bool.{and_parts, and_from, not-true}
use Rattle.qc_model.specs.declared.problem.Scope.{Scope}
use Rattle.qc_model.specs.declared.problem.VarId.{VarId}
use Rattle.qc_model.specs.Content.{Game}
use Rattle.qc_model.specs.Demands.{demands}
use Rattle.qc_model.specs.Domains.{Values, Box, has_empty, is_single, values_left}
use Rattle.qc_model.specs.Game.{allows, is_of_scope}
use Rattle.proof_tree.specs.declared.tree.Horizon.{Horizon}
use Rattle.proof_tree.specs.declared.tree.Step.{Step}
use Rattle.proof_tree.specs.Cover.{covered, uncovered, is_cover, box_to}
use Rattle.proof_tree.specs.InPlace.{in_place, body_in_place, ending_in_place, branches_in_place, case_in_place, steps_in_place, horizon_below, horizon_in_place, is_horizon}
use Rattle.proof_tree.specs.Place.{position, is_fixed, is_goal, next_scopes, list_after}
use Rattle.proof_tree.specs.Steps.{after_steps}
use Rattle.proof_tree.specs.Tree.{Tree, tree, goal, cases, Ending, next, branch, Branches, piece, Case, skip, left_open, go}
use Rattle.proof_meaning.specs.Answered.{Answered, IsAnswered}
use Rattle.check_lines.specs.EndSizes.{IsWide}
use Rattle.check_lines.proofs.Facts.{next_drop}
use Rattle.check_lines.proofs.LedgerTurns.{demands_step}
use Rattle.check_lines.proofs.Parts.{of_scope}
use Rattle.qc_play.specs.Walk.{steps_fit, part_leaves, case_fits, CanReadNode, CanReadPart, CanReadEnd, CanReadBranches, CanReadCase}

three : (a b c : Bool) → (a && b && c) ≡ true → (a ≡ true) × (b ≡ true) × (c ≡ true)
three true b c e = let h = and_parts b c e in (refl, h.0, h.1)
three false b c e = cc

last_scope : (ss : List Scope) (i : ℕ) → is_goal (drop i ss) ≡ true → length ss ≤ i
last_scope [] i e = omega arith
last_scope (s ∷ ss) zero e = cc
last_scope (s ∷ ss) (suc i) e = let h = last_scope ss i e in omega (arith, h)

some_scope : (ss : List Scope) (i : ℕ) → is_goal (drop i ss) ≡ false → i < length ss
some_scope [] zero e = cc
some_scope [] (suc i) e = cc
some_scope (s ∷ ss) zero e = omega arith
some_scope (s ∷ ss) (suc i) e = let h = some_scope ss i e in omega (arith, h)

-- the list after a scope is that of the next
pub list_next : (g : Game) (i : ℕ) → i < length g.scopes → list_after g (drop i g.scopes) (demands g i) ≡ demands g (suc i)
list_next g i h = demands_step g g.scopes i [] h

-- the goal stands after all scopes
pub goal_last : (g : Game) (z : Option Horizon) (i : ℕ) (box : Box) → CanReadNode g (tree z goal) i box → i ≤ length g.scopes → i ≡ length g.scopes
goal_last g z i box h l =
    let k = horizon_below z h.horizon in
    let b = (and_parts (horizon_in_place g z (drop i g.scopes) i box h.horizon) (body_in_place g goal (drop i g.scopes) i (demands g i) box k) h.placed).1 in
    let m = last_scope g.scopes i (and_parts (not (is_horizon k i)) (is_goal (drop i g.scopes)) b).1 in
    omega (arith, l, m)

-- a scope's own tree
module _ (g : Game) (z : Option Horizon) (steps : List Step) (e : Ending) (i : ℕ) (box : Box) (h : CanReadNode g (tree z (cases steps e)) i box) where
  abbrev below : Option ℕ
  below = horizon_below z h.horizon

  own_parts : (is_goal (drop i g.scopes) ≡ false) × (steps_fit g steps i box ≡ true) × (ending_in_place g e (drop i g.scopes) i (demands g i) (after_steps steps box) below ≡ true)
  own_parts =
      let b = (and_parts (horizon_in_place g z (drop i g.scopes) i box h.horizon) (body_in_place g (cases steps e) (drop i g.scopes) i (demands g i) box below) h.placed).1 in
      let r = and_parts (not (is_horizon below i) && not (is_goal (drop i g.scopes)) && steps_fit g steps i box) (ending_in_place g e (drop i g.scopes) i (demands g i) (after_steps steps box) below) b in
      let s = and_parts (not (is_horizon below i) && not (is_goal (drop i g.scopes))) (steps_fit g steps i box) r.0 in
      let t = and_parts (not (is_horizon below i)) (not (is_goal (drop i g.scopes))) s.0 in
      (not-true (is_goal (drop i g.scopes)) t.1, s.1, r.1)

  pub own_scope : i < length g.scopes
  own_scope = some_scope g.scopes i own_parts.0

  pub own_part : CanReadPart g steps e i box
  own_part = record { horizon = below; placed = and_from (steps_fit g steps i box) (ending_in_place g e (drop i g.scopes) i (demands g i) (after_steps steps box) below) own_parts.1 own_parts.2; answered = h.answered.1 }

  pub own_answered : IsAnswered (drop i g.scopes) g i (position g i box) (part_leaves g steps e i box)
  own_answered = h.answered.0

-- what follows its removals
pub part_end : (g : Game) (steps : List Step) (e : Ending) (i : ℕ) (box : Box) → CanReadPart g steps e i box → CanReadEnd g e i (after_steps steps box)
part_end g steps e i box h = record {
  horizon = h.horizon;
  placed = (and_parts (steps_fit g steps i box) (ending_in_place g e (drop i g.scopes) i (demands g i) (after_steps steps box) h.horizon) h.placed).1;
  answered = h.answered;
}

-- the node after a tuple
module _ (g : Game) (t : Tree) (i : ℕ) (box : Box) (h : CanReadEnd g (next t) i box) where
  next_parts : (has_empty box ≡ false) × (is_fixed g i box ≡ true) × (in_place g t (next_scopes (drop i g.scopes)) (suc i) (list_after g (drop i g.scopes) (demands g i)) box h.horizon ≡ true)
  next_parts =
      let r = and_parts (not (has_empty box) && is_fixed g i box && allows g i (position g (suc i) box)) (in_place g t (next_scopes (drop i g.scopes)) (suc i) (list_after g (drop i g.scopes) (demands g i)) box h.horizon) h.placed in
      let s = and_parts (not (has_empty box) && is_fixed g i box) (allows g i (position g (suc i) box)) r.0 in
      let u = and_parts (not (has_empty box)) (is_fixed g i box) s.0 in
      (not-true (has_empty box) u.0, u.1, r.1)

  pub next_full : has_empty box ≡ false
  next_full = next_parts.0

  pub next_fixed : is_fixed g i box ≡ true
  next_fixed = next_parts.1

  pub next_node : i < length g.scopes → CanReadNode g t (suc i) box
  next_node l = record {
    horizon = h.horizon;
    placed =
        subst (λ d. in_place g t (drop (suc i) g.scopes) (suc i) d box h.horizon ≡ true) (list_next g i l)
        (subst (λ ss. in_place g t ss (suc i) (list_after g (drop i g.scopes) (demands g i)) box h.horizon ≡ true) (next_drop g.scopes i) next_parts.2);
    answered =
        subst (λ d. Answered g t (drop (suc i) g.scopes) (suc i) d box) (list_next g i l)
        (subst (λ ss. Answered g t ss (suc i) (list_after g (drop i g.scopes) (demands g i)) box) (next_drop g.scopes i) h.answered);
  }

-- a branch
module _ (g : Game) (x : VarId) (bs : Branches) (i : ℕ) (box : Box) (h : CanReadEnd g (branch x bs) i box) where
  branch_parts : (has_empty box ≡ false) × (is_of_scope g i x.0 ≡ true) × (branches_in_place g bs x.0 (values_left box x.0) (drop i g.scopes) i (demands g i) box h.horizon ≡ true)
  branch_parts =
      let r = and_parts (not (has_empty box) && is_of_scope g i x.0 && not (is_single (values_left box x.0))) (branches_in_place g bs x.0 (values_left box x.0) (drop i g.scopes) i (demands g i) box h.horizon) h.placed in
      let s = and_parts (not (has_empty box) && is_of_scope g i x.0) (not (is_single (values_left box x.0))) r.0 in
      let u = and_parts (not (has_empty box)) (is_of_scope g i x.0) s.0 in
      (not-true (has_empty box) u.0, u.1, r.1)

  pub branch_full : has_empty box ≡ false
  branch_full = branch_parts.0

  pub branch_variable : IsWide g box → x.0 < length box
  branch_variable wide = let a = of_scope g i x.0 branch_parts.1 in omega (arith, a, wide)

  pub branch_cases : CanReadBranches g bs x.0 (values_left box x.0) i box
  branch_cases = record { horizon = h.horizon; placed = branch_parts.2; answered = h.answered }

-- what a case owes, by the box that it leaves
fits_of : (g : Game) (c : Case) (x : ℕ) (vs : Values) (i : ℕ) (box : Box) (h : Option ℕ) → case_in_place g c x vs (drop i g.scopes) i (demands g i) box h ≡ true → case_fits g c i (box_to box x vs) h ≡ true
fits_of g skip x vs i box h e = refl
fits_of g left_open x vs i box h e = refl
fits_of g (go steps end) x vs i box h e =
    let new = box_to box x vs in
    let fits = steps_in_place g (drop i g.scopes) i (demands g i) steps new in
    let ends = ending_in_place g end (drop i g.scopes) i (demands g i) (after_steps steps new) h in
    let r = three (nat_lt (length vs) (length (values_left box x))) fits ends e in
    and_from fits ends r.1 r.2

-- the first of a branch's cases, and the cases after it
module _ (g : Game) (x : ℕ) (vs : Values) (upto : Option ℤ) (c : Case) (rest : Branches) (i : ℕ) (box : Box) (h : CanReadBranches g (piece upto c rest) x vs i box) where
  piece_parts : (is_cover upto vs ≡ true) × (case_in_place g c x (covered upto vs) (drop i g.scopes) i (demands g i) box h.horizon ≡ true) × (branches_in_place g rest x (uncovered upto vs) (drop i g.scopes) i (demands g i) box h.horizon ≡ true)
  piece_parts =
      three (is_cover upto vs) (case_in_place g c x (covered upto vs) (drop i g.scopes) i (demands g i) box h.horizon) (branches_in_place g rest x (uncovered upto vs) (drop i g.scopes) i (demands g i) box h.horizon)
      h.placed

  pub first_case : CanReadCase g c i (box_to box x (covered upto vs))
  first_case = record { horizon = h.horizon; placed = fits_of g c x (covered upto vs) i box h.horizon piece_parts.1; answered = h.answered.0 }

  pub later_cases : CanReadBranches g rest x (uncovered upto vs) i box
  later_cases = record { horizon = h.horizon; placed = piece_parts.2; answered = h.answered.1 }
