-- What a node of a tree in place has of all that stands above it, and how it is handed on to each place in the tree below.
use Rattle.std.proofs.Common.{◌≡◌, ℕ, suc, ◌+◌, ◌<◌, ◌≤◌, Bool, false, ◌&&◌, not, List, [], ◌∷◌, ◌++◌, length, set, refl, sym, subst, arith, Option, None}
use Rattle.std.specs.Prelude.{ℤ, IsTrue}
use Rattle.std.proofs.lemmas.List.{take-append-drop}
use Rattle.std.proofs.lemmas.Bool.{and_parts}
use Rattle.qc_model.specs.declared.problem.Scope.{Scope}
use Rattle.qc_model.specs.declared.problem.Condition.{Condition}
use Rattle.qc_model.specs.Content.{Game}
use Rattle.qc_model.specs.Lists.{Among, Distinct}
use Rattle.qc_model.specs.Domains.{Values, Box, declared_box, values_left, has_empty}
use Rattle.qc_model.specs.Game.{before, allows, is_of_scope}
use Rattle.qc_model.specs.Sees.{AllVisible, SeesRight}
use Rattle.qc_model.proofs.Moves.{among_left, among_right}
use Rattle.model_laws.proofs.Domains.{domains_differ}
use Rattle.model_laws.proofs.Validity.{valid_differs}
use Rattle.proof_tree.specs.declared.tree.Horizon.{Horizon}
use Rattle.proof_tree.specs.declared.tree.Step.{Step}
use Rattle.proof_tree.specs.Place.{position, is_fixed, list_after, tracked_variable}
use Rattle.proof_tree.specs.Steps.{after_steps}
use Rattle.proof_tree.specs.Cover.{cover, covered, uncovered}
use Rattle.proof_tree.specs.InPlace.{horizon_below, horizon_in_place, steps_in_place}
use Rattle.proof_tree.specs.Good.{IsBlocked}
use Rattle.proof_tree.specs.Fair.{bounded_within}
use Rattle.proof_meaning.proofs.Blocks.{blocked_less, blocked_next, blocked_below}
use Rattle.proof_meaning.proofs.Boxes.{some_widen}
use Rattle.proof_meaning.proofs.Narrowed.{steps_widen}
use Rattle.proof_meaning.proofs.Places.{not_true}
use Rattle.proof_meaning.proofs.Widths.{in_scope}
use Rattle.proof_meaning.proofs.Premises.{IsSound}
use Rattle.proof_meaning.proofs.Taken.{get_distinct, distinct_parts}
use Rattle.proof_meaning.proofs.Frames.{FairNode, FairPart, narrow_fair}
use Rattle.proof_meaning.proofs.Entering.{enter, all_fixed, the_move, child_fair, root_fair}
use Rattle.proof_meaning.proofs.StepRules.{flag_after, steps_fair}
use Rattle.proof_meaning.proofs.Standing.{asked_from, left_from}
use Rattle.proof_meaning.proofs.Trees.{Asked, after_asked}
use Rattle.proof_meaning.proofs.Outcomes.{no_position}

-- a node of scope i, or of the goal, at the values a; later has the scopes from i on, d is the list of scope i, and h the horizon in force
pub record NodeState (g : Game) (is_bounded : Bool) (h : Option ℕ) (later : List Scope) (i : ℕ) (d : List Condition) (a : List ℤ) (box : Box) : Type 0 where
  pub count : i + length later ≡ length g.scopes
  pub sees : SeesRight g later i
  pub asked : Asked g later i d
  pub full : has_empty box ≡ false
  pub fair : FairNode g is_bounded later i a box
  pub blocked : IsBlocked g i a box h

-- a place within the tree of scope i, which is s; later has the scopes after i
pub record PartState (g : Game) (is_bounded : Bool) (h : Option ℕ) (s : Scope) (later : List Scope) (i : ℕ) (d : List Condition) (a : List ℤ) (box : Box) : Type 0 where
  pub count : suc i + length later ≡ length g.scopes
  pub sees : SeesRight g (s ∷ later) i
  pub asked : Asked g (s ∷ later) i d
  pub fair : FairPart g is_bounded s.kind later i a box
  pub blocked : IsBlocked g i a box h

-- of the values of x, a variable of scope i, these are left to the cases of a branch
pub record CasesState (g : Game) (i : ℕ) (box : Box) (x : ℕ) (vs : Values) : Type 0 where
  pub full : has_empty box ≡ false
  pub low : before g i ≤ x
  pub high : x < before g (suc i)
  pub distinct : Distinct vs
  pub some : (u : ℤ) → Among u vs → Among u (values_left box x)

pub root_state : (g : Game) → IsSound g → NodeState g false None g.scopes 0 [] (position g 0 (declared_box g)) (declared_box g)
root_state g r = record {
  count = left_from g 0 (omega arith);
  sees = r.valid.sees;
  asked = asked_from g r.valid 0 (omega arith);
  full = r.ordered.no_empty;
  fair = subst (λ a. FairNode g false g.scopes 0 a (declared_box g)) (sym (no_position g (declared_box g))) (root_fair g (domains_differ g (valid_differs g r.valid)));
  blocked = tt;
}

-- below a horizon in place
pub under_horizon : (g : Game) → IsSound g → (z : Option Horizon) (b : Bool) (h : Option ℕ) (later : List Scope) (i : ℕ) (d : List Condition) (a : List ℤ) (box : Box) → IsTrue (horizon_in_place g z later i box h) →
    NodeState g b h later i d a box → NodeState g b (horizon_below z h) later i d a box
under_horizon g r z b h later i d a box e n = record {
  count = n.count;
  sees = n.sees;
  asked = n.asked;
  full = n.full;
  fair = n.fair;
  blocked = blocked_below g r.table r.ordered z later i a box h n.fair.frame.count n.fair.frame.within n.full e n.blocked;
}

-- from a node into its scope's own tree
pub into_part : (g : Game) (b : Bool) (h : Option ℕ) (s : Scope) (later : List Scope) (i : ℕ) (d : List Condition) (a : List ℤ) (box : Box) → NodeState g b h (s ∷ later) i d a box →
    PartState g (bounded_within s.kind b) h s later i d a box
into_part g b h s later i d a box n = record {
  count = let q = n.count in omega arith;
  sees = n.sees;
  asked = n.asked;
  fair = enter g b s.kind s.condition later i a box n.full n.fair;
  blocked = n.blocked;
}

pub visible_after : (g : Game) (b : Bool) (h : Option ℕ) (s : Scope) (later : List Scope) (i : ℕ) (d : List Condition) (a : List ℤ) (box : Box) → PartState g b h s later i d a box → AllVisible g later (suc i) (list_after g (s ∷ later) d)
visible_after g b h s later i d a box p = (after_asked g later s.kind s.condition i d p.asked p.sees.0).0

-- after steps in place
pub past_steps : (g : Game) → IsSound g → (steps : List Step) (b : Bool) (h : Option ℕ) (s : Scope) (later : List Scope) (i : ℕ) (d : List Condition) (a : List ℤ) (box : Box) →
    IsTrue (steps_in_place g (s ∷ later) i d steps box) → PartState g b h s later i d a box → PartState g (flag_after steps b) h s later i d a (after_steps steps box)
past_steps g r steps b h s later i d a box e p =
    let x = list_after g (s ∷ later) d in
    record {
      count = p.count;
      sees = p.sees;
      asked = p.asked;
      fair = steps_fair g r s later i x a p.count (visible_after g b h s later i d a box p) (tracked_variable g (s ∷ later) i x) refl steps b box e p.fair;
      blocked = blocked_less g i a box (after_steps steps box) h (steps_widen steps box) p.blocked;
    }

-- at a branch, with all the values of its variable
pub all_values : (g : Game) (i : ℕ) (a : List ℤ) (box : Box) (x : ℕ) (b : Bool) (h : Option ℕ) (s : Scope) (later : List Scope) (d : List Condition) → IsTrue (not (has_empty box) && is_of_scope g i x) → PartState g b h s later i d a box →
    CasesState g i box x (values_left box x)
all_values g i a box x b h s later d e p =
    let q = and_parts (not (has_empty box)) (is_of_scope g i x) e in
    let w = in_scope g i x q.1 in
    record { full = not_true (has_empty box) q.0; low = w.0; high = w.1; distinct = get_distinct box x p.fair.frame.distinct; some = λ u k. k }

-- the values that a case covers, and those that it leaves
pub case_values : (g : Game) (i : ℕ) (box : Box) (x : ℕ) (vs : Values) (upto : Option ℤ) → CasesState g i box x vs → CasesState g i box x (covered upto vs) × CasesState g i box x (uncovered upto vs)
case_values g i box x vs upto c =
    let us = covered upto vs in
    let rest = uncovered upto vs in
    let whole : us ++ rest ≡ vs = take-append-drop (cover upto vs) vs in
    let parts = distinct_parts us rest (subst Distinct (sym whole) c.distinct) in (
      record { full = c.full; low = c.low; high = c.high; distinct = parts.first; some = λ u k. c.some u (subst (Among u) whole (among_left u us rest k)) },
      record { full = c.full; low = c.low; high = c.high; distinct = parts.second; some = λ u k. c.some u (subst (Among u) whole (among_right u us rest k)) },
    )

-- into a case
pub into_case : (g : Game) (x : ℕ) (us : Values) (b : Bool) (h : Option ℕ) (s : Scope) (later : List Scope) (i : ℕ) (d : List Condition) (a : List ℤ) (box : Box) → CasesState g i box x us → PartState g b h s later i d a box →
    PartState g b h s later i d a (set box x us)
into_case g x us b h s later i d a box c p = record {
  count = p.count;
  sees = p.sees;
  asked = p.asked;
  fair = narrow_fair g b s.kind later i a box x us c.low c.high c.distinct c.some c.full p.fair;
  blocked = blocked_less g i a box (set box x us) h (λ u k. some_widen box x us u c.some k) p.blocked;
}

-- from a leaf that goes on to the next node
pub next_node : (g : Game) (b : Bool) (h : Option ℕ) (s : Scope) (later : List Scope) (i : ℕ) (d : List Condition) (a : List ℤ) (box : Box) → IsTrue (not (has_empty box) && is_fixed g i box && allows g i (position g (suc i) box)) →
    PartState g b h s later i d a box → NodeState g b h later (suc i) (list_after g (s ∷ later) d) (position g (suc i) box) box
next_node g b h s later i d a box e p =
    let e1 = and_parts (not (has_empty box) && is_fixed g i box) (allows g i (position g (suc i) box)) e in
    let e2 = and_parts (not (has_empty box)) (is_fixed g i box) e1.0 in
    let full = not_true (has_empty box) e2.0 in
    let w = position g (suc i) box in
    let m = the_move g i a box p.fair.frame full e2.1 e1.1 in
    record {
      count = p.count;
      sees = p.sees.1;
      asked = after_asked g later s.kind s.condition i d p.asked p.sees.0;
      full = full;
      fair = child_fair g b s.kind later i a w box p.fair (all_fixed g i a box p.fair.frame full e2.1) refl m;
      blocked = blocked_next g i a m.tuple w box h m.after m.is_move p.blocked;
    }
