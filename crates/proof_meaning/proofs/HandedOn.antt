-- Fair boxes are handed on: from the root to a scope's own tree, by each step and case, and by a leaf to the next node.
use Rattle.std.proofs.Common.{◌≡◌, ℕ, zero, suc, ◌+◌, Bool, true, false, List, [], ◌∷◌, ◌++◌, length, drop, refl, sym, ap, subst, arith, Option, Some, None}
use Rattle.std.specs.Prelude.{ℤ, slice_get}
use Rattle.std.proofs.lemmas.List.{length-drop}
use Rattle.std.proofs.lemmas.Bool.{and_parts}
use Rattle.qc_model.specs.declared.problem.Kind.TheVariants.{Forall}
use Rattle.qc_model.specs.declared.problem.Scope.{Scope}
use Rattle.qc_model.specs.Content.{Game}
use Rattle.qc_model.specs.Lists.{Among, Distinct}
use Rattle.qc_model.specs.Domains.{Values, Box, InBox, declared_box, values_left, box_within, is_none_left, has_empty}
use Rattle.qc_model.specs.Game.{allows, is_of_scope, IsMove}
use Rattle.qc_model.specs.Block.{of_kind, force_stop}
use Rattle.qc_model.specs.Demands.{demands}
use Rattle.qc_model.specs.Sees.{SeesRight}
use Rattle.qc_model.specs.Valid.{IsValid}
use Rattle.model_laws.proofs.Domains.{domains_differ}
use Rattle.model_laws.proofs.Validity.{valid_differs}
use Rattle.proof_tree.specs.declared.tree.Step.{Step}
use Rattle.proof_tree.specs.declared.tree.Step.TheVariants.{Prune, Bound}
use Rattle.proof_tree.specs.Cover.{box_to}
use Rattle.proof_tree.specs.Place.{position, is_fixed, list_after, tracked_variable, Tracked, tracked_first}
use Rattle.proof_tree.specs.Steps.{after_step, is_legal, removes_some, is_refuted_within, is_tracked}
use Rattle.proof_tree.specs.Fair.{Taken, Agrees, FairAt, FairWithin, FairWithinKind, HasAllGood, HasAllGoodWithin, IsFairBox, IsFairWithin, bounded_within, bounded_after}
use Rattle.proof_meaning.specs.Nodes.{IsScope, is_legal_at}
use Rattle.proof_meaning.proofs.Boxes.{differ}
use Rattle.proof_meaning.proofs.Entering.{enter, all_fixed, the_move, child_fair, root_fair}
use Rattle.proof_meaning.proofs.FairBoxes.{fair_at, fair_within, allowed_first, allowed_case}
use Rattle.proof_meaning.proofs.FairForms.{box_of_frame, node_of, node_all, part_of, part_all}
use Rattle.proof_meaning.proofs.Frames.{FairNode, FairPart, prune_stays, narrow_fair}
use Rattle.proof_meaning.proofs.HorizonHolds.{none_empty_set}
use Rattle.proof_meaning.proofs.Passing.{GoodAfter}
use Rattle.proof_meaning.proofs.Premises.{sound_of}
use Rattle.proof_meaning.proofs.Standing.{sees_from, asked_from}
use Rattle.proof_meaning.proofs.StepRules.{step_fair}
use Rattle.proof_meaning.proofs.Trees.{Asked, after_asked}
use Rattle.proof_meaning.proofs.Widths.{in_scope}

pub root_handed : (g : Game) → IsValid g → IsFairBox g false 0 [] (declared_box g)
root_handed g valid =
    let r = sound_of g valid in
    let f = root_fair g (domains_differ g (valid_differs g valid)) in
    record {
      is_box = box_of_frame g 0 [] (declared_box g) f.frame r.ordered.no_empty;
      fair = fair_at g false g.scopes 0 [] (declared_box g) r.ordered.no_empty f;
      all = node_all g false g.scopes 0 [] (declared_box g) r.ordered.no_empty f;
    }

module _ (g : Game) (valid : IsValid g) (s : Scope) (later : List Scope) (i : ℕ) (here : drop i g.scopes ≡ s ∷ later) where
  left : suc i + length later ≡ length g.scopes
  left = omega (arith, length-drop i g.scopes, ap length here)

  node : (b : Bool) (a : List ℤ) (box : Box) → IsFairBox g b i a box → FairNode g b (s ∷ later) i a box
  node b a box f =
      node_of g valid b (s ∷ later) i a box (let e = left in omega arith) f.is_box (subst (λ ss. FairAt g ss i a box) here f.fair) (λ q. subst (λ ss. HasAllGood g ss i a box) here (f.all q))

  part : (b : Bool) (taken : List Taken) (a : List ℤ) (box : Box) → IsFairWithin g b i taken a box → FairPart g b s.kind later i a box
  part b taken a box f =
      part_of g b s.kind s.condition later i taken a box f.is_box (subst (λ ss. FairWithin g ss i taken a box) here f.fair) (λ q. subst (λ ss. HasAllGoodWithin g ss i a box) here (f.all q))

  -- at a universal scope the moves that agree with the cases taken lie in the box
  abbrev HoldsMoves : List Taken → List ℤ → Box → Type 0
  HoldsMoves taken a box = s.kind ≡ Forall → (t : List ℤ) → IsMove g i a t → Agrees taken (a ++ t) → InBox (a ++ t) box

  moves_in : (b : Bool) (taken : List Taken) (a : List ℤ) (box : Box) → IsFairWithin g b i taken a box → HoldsMoves taken a box
  moves_in b taken a box f q =
      let w : FairWithinKind s.kind g (s ∷ later) later i taken a box = subst (λ ss. FairWithin g ss i taken a box) here f.fair in
      (subst (λ k. FairWithinKind k g (s ∷ later) later i taken a box) q w).allowed

  within : (b : Bool) (taken : List Taken) (a : List ℤ) (box : Box) → has_empty box ≡ false → FairPart g b s.kind later i a box → HoldsMoves taken a box → IsFairWithin g b i taken a box
  within b taken a box full f allowed = record {
    is_box = box_of_frame g i a box f.frame full;
    fair = subst (λ ss. FairWithin g ss i taken a box) (sym here) (fair_within g b s.kind s.condition later i taken a box f allowed);
    all = λ q. subst (λ ss. HasAllGoodWithin g ss i a box) (sym here) (part_all g b s.kind s.condition later i a box full f q);
  }

  pub node_handed : (b : Bool) (a : List ℤ) (box : Box) → IsFairBox g b i a box → IsFairWithin g (bounded_within s.kind b) i [] a box
  node_handed b a box f =
      let n = node b a box f in
      within (bounded_within s.kind b) [] a box f.is_box.full (enter g b s.kind s.condition later i a box f.is_box.full n)
      (λ q t m z. allowed_first g b s.condition later i a box f.is_box.full (subst (λ k. FairNode g b (record { kind = k; condition = s.condition } ∷ later) i a box) q n) t m)

  abbrev tracked : Option Tracked
  tracked = tracked_variable g (s ∷ later) i (list_after g (s ∷ later) (demands g i))

  none_tracked : s.kind ≡ Forall → (x : ℕ) → is_tracked x tracked ≡ true → ⊥
  none_tracked q x e =
      differ (subst (λ k. is_tracked x (of_kind k (tracked_first g later (suc i) (list_after g (s ∷ later) (demands g i))) None) ≡ true) q e)

  -- a legal step leaves them there
  moves_stay : (b : Bool) (taken : List Taken) (a : List ℤ) (box : Box) (st : Step) → IsFairWithin g b i taken a box → is_legal g i (force_stop (s ∷ later) i) tracked st box ≡ true → HoldsMoves taken a (after_step st box)
  moves_stay b taken a box (Prune x lo hi c) f e q t m agrees =
      let r = sound_of g valid in
      let p = and_parts (removes_some box x.0 lo hi) (is_refuted_within i (force_stop (s ∷ later) i) (slice_get g.constraints c.0) (box_within box x.0 lo hi)) e in
      prune_stays g r.table r.ordered s.kind later i a box x.0 lo hi c.0 left p.1 (part b taken a box f).frame t (a ++ t) m (subst (λ k. GoodAfter k g later i (a ++ t) (a ++ t)) (sym q) refl)
      (moves_in b taken a box f q t m agrees)
  moves_stay b taken a box (Bound x lo hi) f e q t m agrees = absurd (none_tracked q x.0 (and_parts (removes_some box x.0 lo hi) (is_tracked x.0 tracked) e).1)

  pub step_handed : (b : Bool) (taken : List Taken) (a : List ℤ) (box : Box) (st : Step) → IsFairWithin g b i taken a box → is_legal g i (force_stop (s ∷ later) i) tracked st box ≡ true → has_empty (after_step st box) ≡ false →
      IsFairWithin g (bounded_after st b) i taken a (after_step st box)
  step_handed b taken a box st f e full =
      let asked : Asked g (s ∷ later) i (demands g i) = subst (λ ss. Asked g ss i (demands g i)) here (asked_from g valid i (let l = left in omega arith)) in
      let sees = subst (λ ss. SeesRight g ss i) here (sees_from g valid i) in
      let w = after_asked g later s.kind s.condition i (demands g i) asked sees.0 in
      within (bounded_after st b) taken a (after_step st box) full
      (step_fair g (sound_of g valid) s later i (list_after g (s ∷ later) (demands g i)) a left w.0 tracked refl st b box e (part b taken a box f))
      (moves_stay b taken a box st f e)

  pub case_handed : (b : Bool) (taken : List Taken) (a : List ℤ) (box : Box) (x : ℕ) (vs : Values) → IsFairWithin g b i taken a box → is_of_scope g i x ≡ true → is_none_left vs ≡ false → Distinct vs →
      ((v : ℤ) → Among v vs → Among v (values_left box x)) → IsFairWithin g b i (record { variable = x; values = vs } ∷ taken) a (box_to box x vs)
  case_handed b taken a box x vs f own some new sub =
      let q = in_scope g i x own in
      within b (record { variable = x; values = vs } ∷ taken) a (box_to box x vs) (none_empty_set box x vs f.is_box.full some)
      (narrow_fair g b s.kind later i a box x vs q.0 q.1 new sub f.is_box.full (part b taken a box f))
      (λ k t m agrees. allowed_case (a ++ t) box x vs agrees.0 (moves_in b taken a box f k t m agrees.1))

  next_scope : (n : ℕ) (xs : List Scope) → drop n xs ≡ s ∷ later → drop (suc n) xs ≡ later
  next_scope zero [] e = cc
  next_scope zero (x ∷ xs) e = tail e
    where
      tail : x ∷ xs ≡ s ∷ later → xs ≡ later
      tail e = cc
  next_scope (suc n) [] e = cc
  next_scope (suc n) (x ∷ xs) e = next_scope n xs e

  pub leaf_handed : (b : Bool) (taken : List Taken) (a : List ℤ) (box : Box) → IsFairWithin g b i taken a box → is_fixed g i box ≡ true → allows g i (position g (suc i) box) ≡ true →
      IsFairBox g b (suc i) (position g (suc i) box) box
  leaf_handed b taken a box f fixed ok =
      let full = f.is_box.full in
      let w = position g (suc i) box in
      let p = part b taken a box f in
      let n = child_fair g b s.kind later i a w box p (all_fixed g i a box p.frame full fixed) refl (the_move g i a box p.frame full fixed ok) in
      let e = sym (next_scope i g.scopes here) in
      record {
        is_box = box_of_frame g (suc i) w box n.frame full;
        fair = subst (λ ss. FairAt g ss (suc i) w box) e (fair_at g b later (suc i) w box full n);
        all = λ q. subst (λ ss. HasAllGood g ss (suc i) w box) e (node_all g b later (suc i) w box full n q);
      }

-- the same where scope i is told by its number
from_here : (xs : List Scope) (i : ℕ) (s : Scope) → slice_get xs i ≡ Some s → drop i xs ≡ s ∷ drop (suc i) xs
from_here [] i s e = cc
from_here (x ∷ xs) zero s e = cc
from_here (x ∷ xs) (suc i) s e = from_here xs i s e

module _ (g : Game) (s : Scope) (i : ℕ) where
  pub node_at : (a : List ℤ) (box : Box) (b : Bool) → IsValid g → IsScope g i s → IsFairBox g b i a box → IsFairWithin g (bounded_within s.kind b) i [] a box
  node_at a box b valid q f = node_handed g valid s (drop (suc i) g.scopes) i (from_here g.scopes i s q) b a box f

  pub step_at : (taken : List Taken) (a : List ℤ) (box : Box) (b : Bool) (st : Step) → IsValid g → IsScope g i s → IsFairWithin g b i taken a box → is_legal_at g i st box ≡ true → has_empty (after_step st box) ≡ false →
      IsFairWithin g (bounded_after st b) i taken a (after_step st box)
  step_at taken a box b st valid q f e full =
      let here = from_here g.scopes i s q in
      step_handed g valid s (drop (suc i) g.scopes) i here b taken a box st f
      (subst (λ ss. is_legal g i (force_stop ss i) (tracked_variable g ss i (list_after g ss (demands g i))) st box ≡ true) here e) full

  pub case_at : (taken : List Taken) (a : List ℤ) (box : Box) (b : Bool) (x : ℕ) (vs : Values) → IsValid g → IsScope g i s → IsFairWithin g b i taken a box → is_of_scope g i x ≡ true → is_none_left vs ≡ false → Distinct vs →
      ((v : ℤ) → Among v vs → Among v (values_left box x)) → IsFairWithin g b i (record { variable = x; values = vs } ∷ taken) a (box_to box x vs)
  case_at taken a box b x vs valid q f own some new sub = case_handed g valid s (drop (suc i) g.scopes) i (from_here g.scopes i s q) b taken a box x vs f own some new sub

  pub leaf_at : (taken : List Taken) (a : List ℤ) (box : Box) (b : Bool) → IsValid g → IsScope g i s → IsFairWithin g b i taken a box → is_fixed g i box ≡ true → allows g i (position g (suc i) box) ≡ true →
      IsFairBox g b (suc i) (position g (suc i) box) box
  leaf_at taken a box b valid q f fixed ok = leaf_handed g valid s (drop (suc i) g.scopes) i (from_here g.scopes i s q) b taken a box f fixed ok
