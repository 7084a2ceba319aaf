-- What is found ahead of a scope is what a certificate asks of a horizon there.
use Rattle.std.proofs.Common.{◌≡◌, ℕ, suc, ◌+◌, ◌<◌, ◌≤◌, ◌⊎◌, Bool, true, false, not, ◌&&◌, List, [], ◌∷◌, length, arith, inl, inr}
use Rattle.std.specs.Prelude.{Option, Some, None, nat_le}
use Rattle.std.proofs.lemmas.Bool.{cases_order, not_from_false, and_from}
use Rattle.std.proofs.lemmas.Bool.Decides.{nat_tests}
use Rattle.qc_model.specs.declared.problem.Scope.{Scope}
use Rattle.qc_model.specs.Block.{constraints_within}
use Rattle.qc_model.specs.Closed.{is_closed, NoClosedWithin}
use Rattle.qc_model.specs.Content.{Game}
use Rattle.qc_model.specs.Domains.{Box, has_empty}
use Rattle.proof_tree.specs.declared.tree.Horizon.{Horizon}
use Rattle.proof_tree.specs.declared.tree.Step.{Step}
use Rattle.proof_tree.specs.Diligent.{is_by, SeesAhead}
use Rattle.proof_tree.specs.InPlace.{horizon_in_place, is_nearer}
use Rattle.proof_tree.specs.Place.{is_goal}
use Rattle.proof_tree.specs.Steps.{after_steps, are_legal}
use Rattle.qc_cascade.specs.Ahead.{HasClosed, IsHorizon, IsOpen}
use Rattle.qc_cascade.proofs.Pruned.{legal_steps}

at_most : (j k : ℕ) → j ≤ k → nat_le j k ≡ true
at_most j k h = grind (arith, nat_tests)

-- a horizon that is found stands in place at a scope, where it is nearer than the one in force
pub stands_in_place : (g : Game) (later : List Scope) (i : ℕ) (box : Box) (h : Option ℕ) (z : Horizon) → i + length later ≡ length g.scopes → is_goal later ≡ false → is_nearer z.scope.0 h ≡ true →
    IsHorizon g i z.scope.0 box z.steps → horizon_in_place g (Some z) later i box h ≡ true
stands_in_place g later i box h z e s n f =
    let k = z.scope.0 in
    and_from (not (is_goal later) && nat_le i k && nat_le k (i + length later) && is_nearer k h && are_legal g i (suc k) None z.steps box) (has_empty (after_steps z.steps box))
    (and_from (not (is_goal later) && nat_le i k && nat_le k (i + length later) && is_nearer k h) (are_legal g i (suc k) None z.steps box)
    (and_from (not (is_goal later) && nat_le i k && nat_le k (i + length later)) (is_nearer k h)
    (and_from (not (is_goal later) && nat_le i k) (nat_le k (i + length later))
    (and_from (not (is_goal later)) (nat_le i k) (not_from_false (is_goal later) s) (at_most i k f.ahead))
    (at_most k (i + length later) (omega (arith, f.to, e))))
    n)
    (legal_steps g i (suc k) z.steps box f.pruned))
    f.emptied

-- a box that is closed shows that some is
closed_none : (g : Game) (i k : ℕ) (box : Box) → HasClosed g i k box → NoClosedWithin (constraints_within g i (suc k)) box → ⊥
closed_none g i k box c n = no (is_closed (constraints_within g i (suc k)) c.left) c.closed (n c.left c.inside)
  where
    no : (b : Bool) → b ≡ true → b ≡ false → ⊥
    no true h e = cc
    no false h e = cc

-- where none is found up to the goal, none is owed
pub sees_open : (g : Game) (later : List Scope) (i : ℕ) (box : Box) (h : Option ℕ) (steps : List Step) → i + length later ≡ length g.scopes → IsOpen g i (suc (length g.scopes)) box steps → SeesAhead g later i box h
sees_open g [] i box h steps e o = tt
sees_open g (s ∷ later) i box h steps e o = λ k up to none. absurd (closed_none g i k box (o.each k up (omega (arith, to, e))) none)

-- a horizon in force is one for all that lie further
further : (k j : ℕ) (h : Option ℕ) → k ≤ j → is_by k h ≡ true → is_by j h ≡ true
further k j None l b = cc
further k j (Some n) l b = grind (arith, nat_tests)

-- where none is found before some number, and one at most as far is in force, none is owed
pub sees_under : (g : Game) (later : List Scope) (i stop : ℕ) (box : Box) (h : Option ℕ) (steps : List Step) → is_by stop h ≡ true → IsOpen g i stop box steps → SeesAhead g later i box h
sees_under g [] i stop box h steps b o = tt
sees_under g (s ∷ later) i stop box h steps b o = λ j up to none. by j (cases_order j stop) up none
  where
    by : (j : ℕ) → (j ≡ stop) ⊎ ((j < stop) ⊎ (stop < j)) → i ≤ j → NoClosedWithin (constraints_within g i (suc j)) box → is_by j h ≡ true
    by j (inl e) up none = further stop j h (omega (arith, e)) b
    by j (inr (inl l)) up none = absurd (closed_none g i j box (o.each j up l) none)
    by j (inr (inr l)) up none = further stop j h (omega (arith, l)) b

-- where one is found, and one at most as far is in force, no nearer one is owed
pub sees_horizon : (g : Game) (later : List Scope) (i k : ℕ) (box : Box) (h : Option ℕ) (steps : List Step) → is_by k h ≡ true → IsHorizon g i k box steps → SeesAhead g later i box h
sees_horizon g [] i k box h steps b f = tt
sees_horizon g (s ∷ later) i k box h steps b f = λ j up to none. by j (cases_order j k) up none
  where
    by : (j : ℕ) → (j ≡ k) ⊎ ((j < k) ⊎ (k < j)) → i ≤ j → NoClosedWithin (constraints_within g i (suc j)) box → is_by j h ≡ true
    by j (inl e) up none = further k j h (omega (arith, e)) b
    by j (inr (inl l)) up none = absurd (closed_none g i j box (f.nearer j up l) none)
    by j (inr (inr l)) up none = further k j h (omega (arith, l)) b
