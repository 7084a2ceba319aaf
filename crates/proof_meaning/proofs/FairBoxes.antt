-- The boxes that the induction carries are the fair ones: at a node, and within a scope's own tree.
use Rattle.std.proofs.Common.{◌≡◌, ℕ, zero, suc, ◌+◌, ◌≤◌, Bool, true, false, List, [], ◌∷◌, ◌++◌, length, drop, refl, subst, arith, Option}
use Rattle.std.specs.Prelude.{ℤ, pos, slice_get, slice_index_or}
use Rattle.qc_model.specs.declared.problem.Kind.{Kind}
use Rattle.qc_model.specs.declared.problem.Kind.TheVariants.{Exists, Forall}
use Rattle.qc_model.specs.declared.problem.Condition.{Condition}
use Rattle.qc_model.specs.declared.problem.Scope.{Scope}
use Rattle.qc_model.specs.Content.{Game}
use Rattle.qc_model.specs.Domains.{Values, Box, InBox, declared_box, box_within, box_without, has_empty}
use Rattle.qc_model.specs.Game.{before, IsMove}
use Rattle.qc_model.specs.Table.{IsOrdered, IsTableSound}
use Rattle.qc_model.specs.Lists.{Among}
use Rattle.proof_tree.specs.Cover.{box_to}
use Rattle.proof_tree.specs.Steps.{is_refuted_within}
use Rattle.proof_tree.specs.Fair.{free_stop, Taken, Agrees, FairAt, FairAtKind, FairWithinKind}
use Rattle.proof_meaning.proofs.Passing.{move_count}
use Rattle.proof_meaning.proofs.FreeFront.{before_wider, free_above}
use Rattle.proof_meaning.proofs.Taken.{taken_less}
use Rattle.proof_meaning.proofs.Frames.{stop_of, Frame, FairNode, FairPart, prune_stays}
use Rattle.proof_meaning.proofs.Entering.{declared_move, rest_declared}
use Rattle.proof_meaning.proofs.Frames.{front_in}

-- fewer free scopes where no bound stands above
stop_least : (b : Bool) (later : List Scope) (i : ℕ) → stop_of b later i ≤ free_stop later i
stop_least true later i = omega arith
stop_least false later i = free_above later i

pub fair_at : (g : Game) (b : Bool) (later : List Scope) (i : ℕ) (a : List ℤ) (box : Box) → has_empty box ≡ false → FairNode g b later i a box → FairAt g later i a box
fair_at g b [] i a box full f = tt
fair_at g b (s ∷ later) i a box full f = by s.kind s.condition f
  where
    by : (k : Kind) (c : Option Condition) → FairNode g b (record { kind = k; condition = c } ∷ later) i a box → FairAtKind k g (record { kind = k; condition = c } ∷ later) i a box
    by Exists c f = record {
      good = λ w good h.
          f.keeps w good (taken_less (before g (stop_of b (record { kind = Exists; condition = c } ∷ later) i)) (before g (free_stop (record { kind = Exists; condition = c } ∷ later) i)) w box
          (before_wider g (stop_of b (record { kind = Exists; condition = c } ∷ later) i) (free_stop (record { kind = Exists; condition = c } ∷ later) i) (stop_least b (record { kind = Exists; condition = c } ∷ later) i)) h);
      rest = f.rest;
    }
    by Forall c f = subst (λ n. drop n box ≡ drop n (declared_box g)) f.frame.count (rest_declared g b c later i a box full f)

-- within the tree; at a universal scope the moves that agree with the cases taken lie in the box, as the lemmas below say
pub fair_within : (g : Game) (b : Bool) (k : Kind) (c : Option Condition) (later : List Scope) (i : ℕ) (taken : List Taken) (a : List ℤ) (box : Box) → FairPart g b k later i a box →
    (k ≡ Forall → (t : List ℤ) → IsMove g i a t → Agrees taken (a ++ t) → InBox (a ++ t) box) → FairWithinKind k g (record { kind = k; condition = c } ∷ later) later i taken a box
fair_within g b Exists c later i taken a box f allowed = record {
  good = λ w good h.
      f.keeps good.0 w good.1 good.2 (taken_less (before g (stop_of b later (suc i))) (before g (free_stop later (suc i))) w box
      (before_wider g (stop_of b later (suc i)) (free_stop later (suc i)) (stop_least b later (suc i))) h);
  rest = λ w good h. f.rest good.0 w good.1 good.2 h;
}
fair_within g b Forall c later i taken a box f allowed = record {
  allowed = allowed refl;
  rest = λ t m h. subst (λ n. drop n box ≡ drop n (declared_box g)) (move_count g i a t f.frame.count m) (f.rest t (a ++ t) m refl h);
}

-- at the start of a universal scope's tree all moves lie in the box, a legal step keeps them, and a case those that agree with it
pub allowed_first : (g : Game) (b : Bool) (c : Option Condition) (later : List Scope) (i : ℕ) (a : List ℤ) (box : Box) → has_empty box ≡ false → FairNode g b (record { kind = Forall; condition = c } ∷ later) i a box →
    (t : List ℤ) → IsMove g i a t → InBox (a ++ t) box
allowed_first g b c later i a box full f t m = declared_move g i a t box f.frame.count (front_in g i a box f.frame full) (rest_declared g b c later i a box full f) m

pub allowed_pruned : (g : Game) (sound : IsTableSound g) (ordered : IsOrdered g) (later : List Scope) (i : ℕ) (a : List ℤ) (box : Box) (x : ℕ) (lo hi : ℤ) (c : ℕ) → suc i + length later ≡ length g.scopes →
    is_refuted_within i (suc i) (slice_get g.constraints c) (box_within box x lo hi) ≡ true → Frame g i a box → (t : List ℤ) → IsMove g i a t → InBox (a ++ t) box → InBox (a ++ t) (box_without box x lo hi)
allowed_pruned g sound ordered later i a box x lo hi c len refuted f t m h = prune_stays g sound ordered Forall later i a box x lo hi c len refuted f t (a ++ t) m refl h

pub allowed_case : (w : List ℤ) (box : Box) (x : ℕ) (vs : Values) → Among (slice_index_or w x (pos 0)) vs → InBox w box → InBox w (box_to box x vs)
allowed_case [] box x vs e h = tt
allowed_case (u ∷ w) [] x vs e h = absurd h
allowed_case (u ∷ w) (d ∷ box) zero vs e h = (e, h.1)
allowed_case (u ∷ w) (d ∷ box) (suc x) vs e h = (h.0, allowed_case w box x vs e h.1)
