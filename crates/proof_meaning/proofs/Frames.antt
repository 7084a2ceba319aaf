-- Fair boxes, with bounds or without, and what keeps them fair.
use Rattle.std.proofs.Common.{◌≡◌, ◌⊎◌, inl, inr, ℕ, suc, ◌+◌, ◌<◌, ◌≤◌, Bool, true, false, not, List, [], ◌∷◌, ◌++◌, length, take, drop, set, get_or, filter, refl, ap, ◌∙◌, arith, cond, Option, Some, None}
use Rattle.std.specs.Prelude.{ℤ, slice_get, is_some}
use Rattle.std.proofs.lemmas.List.{take-set-le, drop-set-lt, length-append}
use Rattle.std.proofs.Math.ListN.{length-set}
use Rattle.qc_model.specs.declared.problem.Kind.{Kind}
use Rattle.qc_model.specs.declared.problem.Kind.TheVariants.{Exists, Forall}
use Rattle.qc_model.specs.declared.problem.Scope.{Scope}
use Rattle.qc_model.specs.declared.problem.Condition.{Condition}
use Rattle.qc_model.specs.Content.{Game}
use Rattle.qc_model.specs.Lists.{Among, Distinct}
use Rattle.qc_model.specs.Domains.{Box, InBox, declared_box, values_left, is_within, values_within, values_outside, box_within, box_without, has_empty}
use Rattle.qc_model.specs.Game.{before, IsMove}
use Rattle.qc_model.specs.Block.{of_kind, block_stop}
use Rattle.model_laws.specs.Distinct.{EachDistinct}
use Rattle.proof_tree.specs.Steps.{is_refuted_within}
use Rattle.proof_tree.specs.Good.{Good, GoodThrough}
use Rattle.qc_model.specs.Table.{IsTableSound, IsOrdered}
use Rattle.proof_tree.specs.Fair.{free_stop, KeepsGood, LeavesRest}
use Rattle.proof_meaning.proofs.Boxes.{singles, in_singles, filter_widen, filter_split, some_widen, singles_stay}
use Rattle.proof_meaning.proofs.FreeFront.{before_wider, free_above}
use Rattle.proof_meaning.proofs.GoodValues.{good_front, after_front}
use Rattle.proof_meaning.proofs.HorizonHolds.{not_refuted}
use Rattle.proof_meaning.proofs.Narrowed.{IsWithin, within_filter, within_some, within_in, past_set}
use Rattle.proof_meaning.proofs.Passing.{GoodAfter, move_count, after_passes}
use Rattle.proof_meaning.proofs.Taken.{taken_less, still_in, filtered_distinct, set_distinct}

-- the first number from i on whose scope's values aren't asked to lie in the box; is_bounded says that a bound of the block stands above
abbrev pub stop_of : Bool → List Scope → ℕ → ℕ
stop_of true later i = free_stop later i
stop_of false later i = i

-- the position has its values in the box, each domain has some of its declared values, each once
pub record Frame (g : Game) (i : ℕ) (a : List ℤ) (box : Box) : Type 0 where
  pub size : length box ≡ length (declared_box g)
  pub within : IsWithin g box
  pub distinct : EachDistinct box
  pub earlier : has_empty box ≡ false → take (before g i) box ≡ singles a
  pub count : length a ≡ before g i

-- at a node of scope i; later has the scopes from i on
pub record FairNode (g : Game) (is_bounded : Bool) (later : List Scope) (i : ℕ) (a : List ℤ) (box : Box) : Type 0 where
  pub frame : Frame g i a box
  pub keeps : KeepsGood g later i (stop_of is_bounded later i) a box
  pub rest : LeavesRest g later i a box

-- within the tree of scope i; later has the scopes after i
pub record FairPart (g : Game) (is_bounded : Bool) (k : Kind) (later : List Scope) (i : ℕ) (a : List ℤ) (box : Box) : Type 0 where
  pub frame : Frame g i a box
  pub keeps : (t w : List ℤ) → IsMove g i a t → GoodAfter k g later i (a ++ t) w → InBox (take (before g (stop_of is_bounded later (suc i))) w) box → InBox w box
  pub rest : (t w : List ℤ) → IsMove g i a t → GoodAfter k g later i (a ++ t) w → InBox w box → drop (length w) box ≡ drop (length w) (declared_box g)

pub stop_above : (b : Bool) (later : List Scope) (i : ℕ) → i ≤ stop_of b later i
stop_above true later i = free_above later i
stop_above false later i = omega arith

-- the position lies in the box
pub front_in : (g : Game) (i : ℕ) (a : List ℤ) (box : Box) → Frame g i a box → has_empty box ≡ false → InBox a box
front_in g i a box f full = in_singles a (before g i) box (f.earlier full)

-- a smaller domain
pub frame_filter : (g : Game) (p : ℤ → Bool) (i : ℕ) (a : List ℤ) (box : Box) (x : ℕ) → has_empty box ≡ false → Frame g i a box → Frame g i a (set box x (filter p (get_or box x [])))
frame_filter g p i a box x full f = record {
  size = length-set box x (filter p (get_or box x [])) ∙ f.size;
  within = λ j v h. f.within j v (within_filter p box x j v h);
  distinct = filtered_distinct p box x f.distinct;
  earlier = λ e. singles_stay p (before g i) box x a (f.earlier full) e;
  count = f.count;
}

module _ (g : Game) (sound : IsTableSound g) (ordered : IsOrdered g) where
  -- values that go on pass each constraint in force
  pub refuses : (k : Kind) (later : List Scope) (i : ℕ) (a : List ℤ) (box : Box) (x : ℕ) (lo hi : ℤ) (c : ℕ) → suc i + length later ≡ length g.scopes →
      is_refuted_within i (of_kind k (block_stop later (suc i)) (suc i)) (slice_get g.constraints c) (box_within box x lo hi) ≡ true → Frame g i a box →
      (t w : List ℤ) → IsMove g i a t → GoodAfter k g later i (a ++ t) w → InBox w (box_within box x lo hi) → ⊥
  refuses k later i a box x lo hi c len refuted f t w m good b =
      let d = within_in w box (declared_box g) f.within (filter_widen (is_within lo hi) box x w b) in
      let q = after_passes g ordered k later i a t w len f.count d m good in
      not_refuted g sound i (of_kind k (block_stop later (suc i)) (suc i)) w q c (slice_get g.constraints c) (box_within box x lo hi) refl refuted b

  -- what a step removes is no such values'
  pub prune_stays : (k : Kind) (later : List Scope) (i : ℕ) (a : List ℤ) (box : Box) (x : ℕ) (lo hi : ℤ) (c : ℕ) → suc i + length later ≡ length g.scopes →
      is_refuted_within i (of_kind k (block_stop later (suc i)) (suc i)) (slice_get g.constraints c) (box_within box x lo hi) ≡ true → Frame g i a box →
      (t w : List ℤ) → IsMove g i a t → GoodAfter k g later i (a ++ t) w → InBox w box → InBox w (box_without box x lo hi)
  prune_stays k later i a box x lo hi c len refuted f t w m good j =
      elim (filter_split (is_within lo hi) box x w j) [
        | inl b ↦ absurd (refuses k later i a box x lo hi c len refuted f t w m good b)
        | inr b ↦ b
      ]

  pub prune_fair : (b : Bool) (k : Kind) (later : List Scope) (i : ℕ) (a : List ℤ) (box : Box) (x : ℕ) (lo hi : ℤ) (c : ℕ) → suc i + length later ≡ length g.scopes →
      is_refuted_within i (of_kind k (block_stop later (suc i)) (suc i)) (slice_get g.constraints c) (box_within box x lo hi) ≡ true → has_empty box ≡ false →
      FairPart g b k later i a box → FairPart g b k later i a (box_without box x lo hi)
  prune_fair b k later i a box x lo hi c len refuted full f = record {
    frame = frame_filter g (λ u. not (is_within lo hi u)) i a box x full f.frame;
    keeps = λ t w m good h.
        let n = before g (stop_of b later (suc i)) in
        let j = f.keeps t w m good (filter_widen (λ u. not (is_within lo hi u)) box x (take n w) h) in
        prune_stays k later i a box x lo hi c len refuted f.frame t w m good j;
    rest = λ t w m good h.
        let j = filter_widen (λ u. not (is_within lo hi u)) box x w h in
        drop-set-lt (length w) box x (values_outside lo hi (values_left box x)) (reached t w m good j) ∙ f.rest t w m good j;
  }
    where
      below : (x n : ℕ) → (x < n) ⊎ (n ≤ x)
      below x n = grind arith

      reached : (t w : List ℤ) → IsMove g i a t → GoodAfter k g later i (a ++ t) w → InBox w box → x < length w
      reached t w m good j = elim (below x (length w)) [
        | inl l ↦ l
        | inr l ↦ absurd (refuses k later i a box x lo hi c len refuted f.frame t w m good (past_set box x (values_within lo hi (values_left box x)) w l j))
      ]

-- good values reach all free scopes
pub good_long : (g : Game) (later : List Scope) (i : ℕ) (a w : List ℤ) → length a ≡ before g i → Good g later i a w → before g (free_stop later i) ≤ length w
good_long g [] i a w n h = let q = ap length h.0 in omega arith
good_long g (s ∷ later) i a w n h = by s.kind s.condition h (good_long g later (suc i))
  where
    by : (k : Kind) (c : Option Condition) → GoodThrough k g i a (λ b. Good g later (suc i) b w) w →
        ((b u : List ℤ) → length b ≡ before g (suc i) → Good g later (suc i) b u → before g (free_stop later (suc i)) ≤ length u) →
        before g (of_kind k (cond (is_some c) i (free_stop later (suc i))) i) ≤ length w
    by Exists None h f = f (a ++ h.0) w (move_count g i a h.0 n h.1) h.2
    by Exists (Some c) h f =
        let q = good_front g later (suc i) (a ++ h.0) w h.2 in
        omega (arith, ap length q.1, length-append (a ++ h.0) q.0, length-append a h.0)
    by Forall c h f = let q = ap length h in omega arith

-- a bound of a variable that stands before the first scope that isn't free
pub bound_fair : (g : Game) (b : Bool) (later : List Scope) (i : ℕ) (a : List ℤ) (box : Box) (x : ℕ) (lo hi : ℤ) → x < before g (free_stop later (suc i)) → has_empty box ≡ false →
    FairPart g b Exists later i a box → FairPart g true Exists later i a (box_without box x lo hi)
bound_fair g b later i a box x lo hi l full f = record {
  frame = frame_filter g (λ u. not (is_within lo hi u)) i a box x full f.frame;
  keeps = λ t w m good h.
      let n = before g (free_stop later (suc i)) in
      let less = taken_less (before g (stop_of b later (suc i))) n w box (before_wider g (stop_of b later (suc i)) (free_stop later (suc i)) (stop_least b)) (filter_widen (λ u. not (is_within lo hi u)) box x (take n w) h) in
      still_in n x (values_outside lo hi (values_left box x)) w box l (f.keeps t w m good less) h;
  rest = λ t w m good h.
      let j = filter_widen (λ u. not (is_within lo hi u)) box x w h in
      let long = good_long g later (suc i) (a ++ t) w (move_count g i a t f.frame.count m) good in
      drop-set-lt (length w) box x (values_outside lo hi (values_left box x)) (omega arith) ∙ f.rest t w m good j;
}
  where
    stop_least : (b : Bool) → stop_of b later (suc i) ≤ free_stop later (suc i)
    stop_least true = omega arith
    stop_least false = free_above later (suc i)

-- a variable of the scope keeps some of its values
pub narrow_fair : (g : Game) (b : Bool) (k : Kind) (later : List Scope) (i : ℕ) (a : List ℤ) (box : Box) (x : ℕ) (us : List ℤ) → before g i ≤ x → x < before g (suc i) → Distinct us → ((z : ℤ) → Among z us → Among z (values_left box x)) → has_empty box ≡ false →
    FairPart g b k later i a box → FairPart g b k later i a (set box x us)
narrow_fair g b k later i a box x us low high new among full f = record {
  frame = record {
    size = length-set box x us ∙ f.frame.size;
    within = λ j u h. f.frame.within j u (within_some box x j us u among h);
    distinct = set_distinct box x us f.frame.distinct new;
    earlier = λ e. take-set-le (before g i) box x us low ∙ f.frame.earlier full;
    count = f.frame.count;
  };
  keeps = λ t w m good h.
      let n = before g (stop_of b later (suc i)) in
      let up = before_wider g (suc i) (stop_of b later (suc i)) (stop_above b later (suc i)) in
      still_in n x us w box (omega arith) (f.keeps t w m good (some_widen box x us (take n w) among h)) h;
  rest = λ t w m good h.
      drop-set-lt (length w) box x us (far t w m good) ∙ f.rest t w m good (some_widen box x us w among h);
}
  where
    far : (t w : List ℤ) → IsMove g i a t → GoodAfter k g later i (a ++ t) w → x < length w
    far t w m good =
        let q = after_front g k later i (a ++ t) w good in
        let n = move_count g i a t f.frame.count m in
        omega (arith, ap length q.1, length-append (a ++ t) q.0)
