-- The fair boxes that the laws speak of, and those that the induction carries.
use Rattle.std.proofs.Common.{◌≡◌, ℕ, suc, ◌+◌, Bool, true, false, List, [], ◌∷◌, length, map, take, drop, get_or, refl, sym, ap, ◌∙◌, subst, arith, Option}
use Rattle.std.specs.Prelude.{ℤ}
use Rattle.std.proofs.lemmas.List.{length-map, length-take}
use Rattle.qc_model.specs.declared.problem.Kind.{Kind}
use Rattle.qc_model.specs.declared.problem.Kind.TheVariants.{Exists, Forall}
use Rattle.qc_model.specs.declared.problem.Condition.{Condition}
use Rattle.qc_model.specs.declared.problem.Scope.{Scope}
use Rattle.qc_model.specs.Content.{Game}
use Rattle.qc_model.specs.Lists.{Distinct}
use Rattle.qc_model.specs.Domains.{Box, InBox, declared_box, has_empty}
use Rattle.qc_model.specs.Game.{before}
use Rattle.qc_model.specs.Valid.{IsValid}
use Rattle.qc_model.proofs.Before.{before-le}
use Rattle.model_laws.specs.Distinct.{EachDistinct}
use Rattle.proof_tree.specs.Fair.{Taken, FairAt, FairAtKind, FairWithinKind, HasAllGood, HasAllGoodWithin, IsBoxAt}
use Rattle.proof_meaning.proofs.Boxes.{singles}
use Rattle.proof_meaning.proofs.Entering.{all_good}
use Rattle.proof_meaning.proofs.FreeFront.{before_wider}
use Rattle.proof_meaning.proofs.Frames.{stop_of, stop_above, Frame, FairNode, FairPart, front_in}
use Rattle.proof_meaning.proofs.Passing.{move_count}
use Rattle.proof_meaning.proofs.Standing.{none_left}
use Rattle.proof_meaning.proofs.Taken.{get_distinct, taken_all}

map_singles : (a : List ℤ) → map (λ v. v ∷ []) a ≡ singles a
map_singles [] = refl
map_singles (v ∷ a) = ap (λ ds. (v ∷ []) ∷ ds) (map_singles a)

each_distinct : (ds : Box) → ((x : ℕ) → Distinct (get_or ds x [])) → EachDistinct ds
each_distinct [] f = tt
each_distinct (d ∷ ds) f = (f 0, each_distinct ds (λ x. f (suc x)))

pub frame_of : (g : Game) (i : ℕ) (a : List ℤ) (box : Box) → IsBoxAt g i a box → Frame g i a box
frame_of g i a box b = record {
  size = b.size;
  within = b.declared;
  distinct = each_distinct box b.distinct;
  earlier = λ e. b.earlier ∙ map_singles a;
  count = omega (arith, before-le g i, ap length b.earlier, length-map a (λ v. v ∷ []), length-take (before g i) box, b.size);
}

pub box_of_frame : (g : Game) (i : ℕ) (a : List ℤ) (box : Box) → Frame g i a box → has_empty box ≡ false → IsBoxAt g i a box
box_of_frame g i a box f full = record {
  full = full;
  size = f.size;
  declared = f.within;
  distinct = λ x. get_distinct box x f.distinct;
  earlier = f.earlier full ∙ sym (map_singles a);
}

-- at a node
pub node_of : (g : Game) → IsValid g → (b : Bool) (later : List Scope) (i : ℕ) (a : List ℤ) (box : Box) → i + length later ≡ length g.scopes → IsBoxAt g i a box → FairAt g later i a box → (b ≡ false → HasAllGood g later i a box) →
    FairNode g b later i a box
node_of g valid b [] i a box len at fair all =
    let f = frame_of g i a box at in
    record {
      frame = f;
      keeps = λ w good h. subst (λ u. InBox u box) (sym good.0) (front_in g i a box f at.full);
      rest = λ w good h.
          let n = ap length good.0 ∙ f.count in
          subst (λ m. drop m box ≡ drop m (declared_box g)) (sym n)
          (none_left g valid i box (omega arith) (omega arith) at.size ∙ sym (none_left g valid i (declared_box g) (omega arith) (omega arith) refl));
    }
node_of g valid b (s ∷ later) i a box len at fair all = by s.kind s.condition b fair all
  where
    f : Frame g i a box
    f = frame_of g i a box at

    by : (k : Kind) (c : Option Condition) (b : Bool) → FairAtKind k g (record { kind = k; condition = c } ∷ later) i a box → (b ≡ false → HasAllGood g (record { kind = k; condition = c } ∷ later) i a box) →
        FairNode g b (record { kind = k; condition = c } ∷ later) i a box
    by Exists c true fair all = record { frame = f; keeps = fair.good; rest = fair.rest }
    by Exists c false fair all = record { frame = f; keeps = λ w good h. all refl w good; rest = fair.rest }
    by Forall c b fair all = record {
      frame = f;
      keeps = λ w good h. subst (λ u. InBox u box) (sym good) (front_in g i a box f at.full);
      rest = λ w good h. subst (λ m. drop m box ≡ drop m (declared_box g)) (sym (ap length good ∙ f.count)) fair;
    }

pub node_all : (g : Game) (b : Bool) (later : List Scope) (i : ℕ) (a : List ℤ) (box : Box) → has_empty box ≡ false → FairNode g b later i a box → b ≡ false → HasAllGood g later i a box
node_all g true later i a box full f e = cc
node_all g false later i a box full f e = all_good g false later i a box full refl f

-- within a scope's own tree
pub part_of : (g : Game) (b : Bool) (k : Kind) (c : Option Condition) (later : List Scope) (i : ℕ) (taken : List Taken) (a : List ℤ) (box : Box) → IsBoxAt g i a box →
    FairWithinKind k g (record { kind = k; condition = c } ∷ later) later i taken a box → (b ≡ false → HasAllGoodWithin g (record { kind = k; condition = c } ∷ later) i a box) → FairPart g b k later i a box
part_of g true Exists c later i taken a box at fair all = record {
  frame = frame_of g i a box at;
  keeps = λ t w m good h. fair.good w (t, m, good) h;
  rest = λ t w m good h. fair.rest w (t, m, good) h;
}
part_of g false Exists c later i taken a box at fair all = record {
  frame = frame_of g i a box at;
  keeps = λ t w m good h. all refl w (t, m, good) h;
  rest = λ t w m good h. fair.rest w (t, m, good) h;
}
part_of g b Forall c later i taken a box at fair all = record {
  frame = f;
  keeps = λ t w m good h.
      let n = ap length good ∙ move_count g i a t f.count m in
      whole b w n h;
  rest = λ t w m good h.
      subst (λ z. drop z box ≡ drop z (declared_box g)) (sym (ap length good ∙ move_count g i a t f.count m))
      (fair.rest t m (subst (λ u. InBox u box) good h));
}
  where
    f : Frame g i a box
    f = frame_of g i a box at

    whole : (b : Bool) (w : List ℤ) → length w ≡ before g (suc i) → InBox (take (before g (stop_of b later (suc i))) w) box → InBox w box
    whole b w n h = let up = before_wider g (suc i) (stop_of b later (suc i)) (stop_above b later (suc i)) in taken_all (before g (stop_of b later (suc i))) w box (omega arith) h

pub part_all : (g : Game) (b : Bool) (k : Kind) (c : Option Condition) (later : List Scope) (i : ℕ) (a : List ℤ) (box : Box) → has_empty box ≡ false → FairPart g b k later i a box → b ≡ false →
    HasAllGoodWithin g (record { kind = k; condition = c } ∷ later) i a box
part_all g true k c later i a box full f e = cc
part_all g false Exists c later i a box full f e = λ w good h. f.keeps good.0 w good.1 good.2 h
part_all g false Forall c later i a box full f e = λ w good h. subst (λ u. InBox u box) (sym good) (front_in g i a box f.frame full)
