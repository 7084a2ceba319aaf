-- The numbers that a ledger keeps are no larger than the ends so far make them.
use Rattle.std.proofs.Common.{◌≡◌, ◌≤◌, ◌<◌, ◌+◌, ◌-◌, ◌∙◌, ℕ, zero, suc, Bool, true, false, not, ◌&&◌, cond, List, [], ◌∷◌, ◌++◌, length, map, set, refl, sym, subst, arith, length-set, append-nil, ℤ, Some, None, Option}
use Rattle.std.specs.List.{list_all}
use Rattle.std.proofs.lemmas.List.{length-map}
use Rattle.std.proofs.lemmas.Bool.{and_parts}
use Rattle.qc_model.specs.Content.{Game}
use Rattle.qc_model.specs.Domains.{Values, Box, values_left, values_outside, domain_values, has_empty, is_none_left}
use Rattle.qc_model.specs.Game.{allows}
use Rattle.qc_model.specs.Valid.{IsValid, is_number}
use Rattle.qc_model.specs.Verdict.{Verdict, Seen, seen_barred, seen_skipped, seen_bound, seen_node}
use Rattle.qc_model.specs.ExistsVerdict.{some_open}
use Rattle.proof_tree.specs.declared.tree.Step.{Step}
use Rattle.proof_tree.specs.declared.tree.Step.TheVariants.{Prune as PruneStep, Bound as BoundStep}
use Rattle.proof_tree.specs.declared.line.Line.{Line}
use Rattle.proof_tree.specs.declared.line.Line.TheVariants.{Horizon, Prune, Bound, Dot, Stuck, Goal, Empty, Barred, Next, Branch, Skip, Open, Range}
use Rattle.proof_tree.specs.Cover.{cover, covered, is_cover}
use Rattle.proof_tree.specs.Place.{Tracked, position, list_after, tracked_variable}
use Rattle.proof_tree.specs.Steps.{after_step, step_marks, is_legal}
use Rattle.joins.specs.Verdicts.{verdict_at}
use Rattle.joins.specs.Sizes.{IsSized, AreNumbers, nodes_at}
use Rattle.joins.specs.Ends.{HasEnds, IsOfEnds, HasPart, tells_nothing}
use Rattle.joins.proofs.Ends.{ends_more, ends_sizes, verdict_of_ends, open_join, ends_none, ends_join, ends_node}
use Rattle.check_lines.specs.State.{Fork, fork_on, fork_after, bars, goes_on, may_branch, may_see, may_take, is_own_step}
use Rattle.check_lines.specs.Awaited.{Awaited, node_awaited, prune_awaited, body_awaited, part_awaited, case_awaited, ranged_awaited, none_awaited}
use Rattle.check_lines.specs.Ledger.{Ledger, Entry, next_entry, branch_entry, part_closed, node_closed, part_close, node_close, spot_on, space_left, no_scope_left, sees_horizon, marks_of, ledger_end, may_begin, begun, begins, ledger_body, ledger_node, ledger_prune, passed_over, gone_into, ledger_case, ledger_fork, at_entry, goes_at, goes}
use Rattle.check_lines.specs.LedgerHeld.{first_ledger}
use Rattle.check_lines.specs.LedgerSizes.{HasNumbers, VerdictLaws, EntriesKeep, PartKeeps, NodeKeeps, AwaitedKeeps, KeepsSizesAt}
use Rattle.check_lines.specs.EndSizes.{ends_after, IsWide, EntriesEnds, PartEnds, CaseEnds, AwaitedEnds, EndsSoFar, EndsAt}
use Rattle.check_lines.proofs.Parts.{branch_inside, branch_full}
use Rattle.check_lines.proofs.LedgerSizes.{all_set, position_numbers, one_mark, sized_more}
use Rattle.box_laws.proofs.Filters.{all_take, all_drop}

-- ---- boxes
set_wide : (g : Game) (box : Box) (x : ℕ) (vs : Values) → IsWide g box → IsWide g (set box x vs)
set_wide g box x vs w = length-set box x vs ∙ w

step_wide : (g : Game) (step : Step) (box : Box) → IsWide g box → IsWide g (after_step step box)
step_wide g (PruneStep x low high c) box w = set_wide g box x.0 (values_outside low high (values_left box x.0)) w
step_wide g (BoundStep x low high) box w = set_wide g box x.0 (values_outside low high (values_left box x.0)) w

some_left : (box : Box) (x : ℕ) → has_empty box ≡ false → x < length box → is_none_left (values_left box x) ≡ true → ⊥
some_left [] x e l n = absurd (omega (arith, l))
some_left ([] ∷ box) x e l n = cc
some_left ((v ∷ vs) ∷ box) zero e l n = cc
some_left ((v ∷ vs) ∷ box) (suc x) e l n = some_left box x e (omega (arith, l)) n

-- ---- what a line brings
barred_ends : HasEnds 1 (seen_barred ∷ [])
barred_ends = record { nodes = λ k. omega arith; marks = omega arith; none = λ z. absurd (omega (arith, z)) }

empty_ends : HasEnds 1 []
empty_ends = record { nodes = λ k. omega arith; marks = omega arith; none = λ z. absurd (omega (arith, z)) }

skipped_ends : HasEnds 0 (seen_skipped ∷ [])
skipped_ends = record { nodes = λ k. omega arith; marks = omega arith; none = λ z. refl }

no_nodes : (k : ℕ) (ms : List ℤ) → nodes_at k (map seen_bound ms) ≡ 0
no_nodes k [] = refl
no_nodes k (m ∷ ms) = no_nodes k ms

no_tale : (ms : List ℤ) → tells_nothing (map seen_bound ms) ≡ true
no_tale [] = refl
no_tale (m ∷ ms) = no_tale ms

-- the marks of a step
marks_ends : (g : Game) (i : ℕ) (t : Option Tracked) (step : Step) (box : Box) → HasNumbers box → HasEnds 0 (map seen_bound (step_marks t (step ∷ []) box))
marks_ends g i t step box b =
    let ms = step_marks t (step ∷ []) box in
    let one = one_mark g i t step box b in
    record { nodes = λ k. let z = no_nodes k ms in omega (arith, z); marks = omega (arith, one.sizes 0); none = λ z. no_tale ms }

module _ (g : Game) (valid : IsValid g) where
  -- a scope's own tree has ended, and perhaps those above it
  closed : (n e : ℕ) (d : Ledger) (fs : List Entry) (i : ℕ) (z : Option ℕ) (xs : List Seen) (a : List ℤ) → IsWide g d.box → AreNumbers a → EntriesKeep g n fs i → (p : PartEnds g e fs xs) → HasPart p.here xs →
      EndsSoFar g e (part_closed g d fs i z xs a)
  closed n e d [] i z xs a w num keep p done =
      record { wide = w; waits = ends_more p.here e (verdict_at g i a xs) (omega (arith, p.all)) (verdict_of_ends g i a xs p.here valid num p.scope done) }
  closed n e d (branch_entry b ∷ fs) i z xs a w num keep p done = record { wide = p.entries.0; waits = record { part = p; tried = λ none. done } }
  closed n e d (next_entry up above y ∷ fs) i z xs a w num keep p done =
      let v = verdict_at g i a xs in
      let is = verdict_of_ends g i a xs p.here valid num p.scope done in
      let q = p.entries in
      closed keep.1 e d fs (i - 1) y (up ++ seen_node v ∷ []) above w keep.4.values keep.5
      record { here = q.0 + p.here; above = q.1; all = omega (arith, p.all, q.2); scope = ends_join q.0 p.here up (seen_node v ∷ []) q.3 (ends_node p.here v is); entries = q.4 }
      (λ none. open_join up (seen_node v ∷ []) (subst (λ u. some_open (seen_node u ∷ []) ≡ true) (sym (is.none (omega (arith, none)))) refl))

  -- a node has ended without an own tree
  node_ended : (n e : ℕ) (d : Ledger) (fs : List Entry) (i : ℕ) (z : Option ℕ) (v : Verdict) → IsWide g d.box → IsSized 1 v → EntriesKeep g n fs i → EntriesEnds g e fs → EndsSoFar g (e + 1) (node_closed g d fs i z v)
  node_ended n e d fs i z v w sized keep ends = by fs keep ends
    where
      one : IsOfEnds 1 v
      one = record { sized = sized; none = λ none. absurd (omega (arith, none)) }

      by : (fs : List Entry) → EntriesKeep g n fs i → EntriesEnds g e fs → EndsSoFar g (e + 1) (node_closed g d fs i z v)
      by [] keep ends = record { wide = w; waits = ends_more 1 (e + 1) v (omega arith) one }
      by (branch_entry b ∷ fs) keep ends = record { wide = w; waits = ends_more 1 (e + 1) v (omega arith) one }
      by (next_entry up above y ∷ fs) keep q =
          closed keep.1 (e + 1) d fs (i - 1) y (up ++ seen_node v ∷ []) above w keep.4.values keep.5
          record { here = q.0 + 1; above = q.1; all = omega (arith, q.2); scope = ends_join q.0 1 up (seen_node v ∷ []) q.3 (ends_node 1 v one); entries = q.4 }
          (λ none. absurd (omega (arith, none)))

  only : (n : ℕ) (b : Bool) (d : Ledger) → EndsSoFar g n d → EndsAt g n (cond b (Some d) None)
  only n true d h = h
  only n false d h = tt

  only_if : (n : ℕ) (b : Bool) (p : Option Ledger) → (b ≡ true → EndsAt g n p) → EndsAt g n (cond b p None)
  only_if n true p h = h refl
  only_if n false p h = tt

  module _ (n e : ℕ) (d : Ledger) (w : IsWide g d.box) (b : HasNumbers d.box) (num : AreNumbers d.before) (keep : EntriesKeep g n d.entries d.number) (p : PartEnds g e d.entries d.seen) where
    ends : (c : Bool) (ys : List Seen) → HasEnds 1 ys → EndsAt g (e + 1) (cond c (Some (part_close g d ys)) None)
    ends c ys one = only (e + 1) c (part_close g d ys)
        (closed n (e + 1) d d.entries d.number d.horizon (d.seen ++ ys) d.before w num keep
        record { here = p.here + 1; above = p.above; all = omega (arith, p.all); scope = ends_join p.here 1 d.seen ys p.scope one; entries = p.entries }
        (λ none. absurd (omega (arith, none))))

    steps : (step : Step) → EndsAt g e (cond (is_own_step g (spot_on g d) step d.box) (Some (record d { box = after_step step d.box; seen = d.seen ++ marks_of g (spot_on g d) step d.box; awaited = part_awaited })) None)
    steps step =
        let s = spot_on g d in
        only e (is_own_step g s step d.box) _
        record {
          wide = step_wide g step d.box w;
          waits = record {
            here = p.here + 0;
            above = p.above;
            all = omega (arith, p.all);
            scope = ends_join p.here 0 d.seen (marks_of g s step d.box) p.scope (marks_ends g d.number (tracked_variable g s.later s.number (list_after g s.later s.demands)) step d.box b);
            entries = p.entries;
          };
        }

    enters : (c : Bool) → EndsAt g e (cond c (Some (record d { entries = next_entry d.seen d.before d.horizon ∷ d.entries; number = d.number + 1; awaited = node_awaited })) None)
    enters c = only e c _ record { wide = w; waits = (p.here, p.above, p.all, p.scope, p.entries) }

    splits : (x : ℕ) → EndsAt g e (cond (may_branch g d.number x d.box && space_left d) (Some (record d { entries = branch_entry (fork_on x d.box) ∷ d.entries; awaited = case_awaited })) None)
    splits x = only_if e (may_branch g d.number x d.box && space_left d) _ (λ may.
        let m = (and_parts (may_branch g d.number x d.box) (space_left d) may).0 in
        let inside = branch_inside g d.number x d.box m in
        record {
          wide = w;
          waits = record {
            part = record { here = p.here; above = p.above; all = p.all; scope = p.scope; entries = (w, p.entries) };
            tried = λ none. absurd (some_left d.box x (branch_full g d.number x d.box m) (omega (arith, inside, w)) none);
          };
        })

    part_ends : (l : Line) → EndsAt g (ends_after e l) (ledger_end g d l)
    part_ends (Prune x low high c) = steps (PruneStep x low high c)
    part_ends (Bound x low high) = steps (BoundStep x low high)
    part_ends Empty = ends (has_empty d.box) [] empty_ends
    part_ends Barred = ends (bars g d.number d.box) (seen_barred ∷ []) barred_ends
    part_ends Next = enters (goes_on g d.number d.box && space_left d)
    part_ends (Branch x) = splits x.0
    part_ends (Horizon k) = tt
    part_ends Dot = tt
    part_ends Stuck = tt
    part_ends Goal = tt
    part_ends Skip = tt
    part_ends Open = tt
    part_ends (Range high) = tt

  module _ (laws : VerdictLaws g) (n e : ℕ) (d : Ledger) (w : IsWide g d.box) (b : HasNumbers d.box) (keep : EntriesKeep g n d.entries d.number) (h : EntriesEnds g e d.entries) where
    begins_ends : (l : Line) → EndsAt g (ends_after e l) (begins g d l)
    begins_ends l = only_if (ends_after e l) (may_begin g d) (ledger_end g (begun g d) l) (λ may.
        part_ends n e (begun g d) w b (position_numbers g d.number d.box b) keep record { here = 0; above = e; all = omega arith; scope = ends_none; entries = h } l)

    node_ends : (c : Bool) (v : Verdict) → IsSized 1 v → EndsAt g (e + 1) (cond c (Some (node_close g d v)) None)
    node_ends c v sized = only (e + 1) c (node_close g d v) (node_ended n e d d.entries d.number d.horizon v w sized keep h)

    body_ends : (l : Line) → EndsAt g (ends_after e l) (ledger_body g d l)
    body_ends Stuck = let a = position g d.number d.box in node_ends (sees_horizon d) _ (laws.stuck_sized d.number a (position_numbers g d.number d.box b))
    body_ends Goal =
        let a = position g d.number d.box in
        node_ends (not (sees_horizon d) && no_scope_left g d) _ (laws.goal_sized d.number a (allows g d.number a) (position_numbers g d.number d.box b))
    body_ends (Prune x low high c) = begins_ends (Prune x low high c)
    body_ends (Bound x low high) = begins_ends (Bound x low high)
    body_ends Empty = begins_ends Empty
    body_ends Barred = begins_ends Barred
    body_ends Next = begins_ends Next
    body_ends (Branch x) = begins_ends (Branch x)
    body_ends (Horizon k) = begins_ends (Horizon k)
    body_ends Dot = begins_ends Dot
    body_ends Skip = begins_ends Skip
    body_ends Open = begins_ends Open
    body_ends (Range high) = begins_ends (Range high)

    line_ends : (l : Line) → EndsAt g (ends_after e l) (ledger_node g d l)
    line_ends (Horizon zero) = tt
    line_ends (Horizon (suc k)) = only e (may_see k (spot_on g d)) _ record { wide = w; waits = (h, w) }
    line_ends Stuck = body_ends Stuck
    line_ends Goal = body_ends Goal
    line_ends (Prune x low high c) = body_ends (Prune x low high c)
    line_ends (Bound x low high) = body_ends (Bound x low high)
    line_ends Empty = body_ends Empty
    line_ends Barred = body_ends Barred
    line_ends Next = body_ends Next
    line_ends (Branch x) = body_ends (Branch x)
    line_ends Dot = body_ends Dot
    line_ends Skip = body_ends Skip
    line_ends Open = body_ends Open
    line_ends (Range high) = body_ends (Range high)

    seen_ends : (k : ℕ) (box : Box) (step : Step) → IsWide g box → EndsAt g e (cond (is_legal g d.number (suc k) None step d.box) (Some (record d { box = after_step step d.box; awaited = prune_awaited k box })) None)
    seen_ends k box step wide = only e (is_legal g d.number (suc k) None step d.box) _ record { wide = step_wide g step d.box w; waits = (h, wide) }

    prune_ends : (k : ℕ) (box : Box) (l : Line) → IsWide g box → EndsAt g (ends_after e l) (ledger_prune g d k box l)
    prune_ends k box (Prune x low high c) wide = seen_ends k box (PruneStep x low high c) wide
    prune_ends k box (Bound x low high) wide = seen_ends k box (BoundStep x low high) wide
    prune_ends k box Dot wide = only e (has_empty d.box) _ record { wide = wide; waits = h }
    prune_ends k box (Horizon j) wide = tt
    prune_ends k box Stuck wide = tt
    prune_ends k box Goal wide = tt
    prune_ends k box Empty wide = tt
    prune_ends k box Barred wide = tt
    prune_ends k box Next wide = tt
    prune_ends k box (Branch x) wide = tt
    prune_ends k box Skip wide = tt
    prune_ends k box Open wide = tt
    prune_ends k box (Range high) wide = tt

  module _ (n e : ℕ) (d : Ledger) (w : IsWide g d.box) (b : HasNumbers d.box) (num : AreNumbers d.before) (f : Fork) (fs : List Entry) (keep : EntriesKeep g n (branch_entry f ∷ fs) d.number) where
    module _ (upto : Option ℤ) (p : PartEnds g e (branch_entry f ∷ fs) d.seen) where
      left_over : EntriesKeep g n (branch_entry (fork_after upto f) ∷ fs) d.number
      left_over = (keep.0, all_drop is_number (cover upto f.left) f.left keep.1, keep.2)

      passes : (c is_open : Bool) → EndsAt g e (cond c (Some (passed_over d f fs upto is_open)) None)
      passes c is_open = only e c (passed_over d f fs upto is_open)
          record {
            wide = w;
            waits = record {
              part = record { here = p.here + 0; above = p.above; all = omega (arith, p.all); scope = ends_join p.here 0 d.seen (seen_skipped ∷ []) p.scope skipped_ends; entries = p.entries };
              tried = λ none z. open_join d.seen (seen_skipped ∷ []) refl;
            };
          }

      goes_in : (l : Line) → EndsAt g (ends_after e l) (cond (may_take upto f) (ledger_end g (gone_into d f fs upto) l) None)
      goes_in l = only_if (ends_after e l) (may_take upto f) (ledger_end g (gone_into d f fs upto) l) (λ may.
          part_ends n e (gone_into d f fs upto) (set_wide g f.box f.variable (covered upto f.left) p.entries.0)
          (all_set (list_all is_number) f.box f.variable (covered upto f.left) keep.0 (all_take is_number (cover upto f.left) f.left keep.1)) num left_over
          record { here = p.here; above = p.above; all = p.all; scope = p.scope; entries = p.entries } l)

      case_ends : (l : Line) → EndsAt g (ends_after e l) (ledger_case g d f fs upto l)
      case_ends Skip = passes (is_cover upto f.left) false
      case_ends Open = passes (is_cover upto f.left) true
      case_ends (Prune x low high c) = goes_in (Prune x low high c)
      case_ends (Bound x low high) = goes_in (Bound x low high)
      case_ends Empty = goes_in Empty
      case_ends Barred = goes_in Barred
      case_ends Next = goes_in Next
      case_ends (Branch x) = goes_in (Branch x)
      case_ends (Horizon k) = goes_in (Horizon k)
      case_ends Dot = goes_in Dot
      case_ends Stuck = goes_in Stuck
      case_ends Goal = goes_in Goal
      case_ends (Range high) = goes_in (Range high)

    module _ (same : d.entries ≡ branch_entry f ∷ fs) (h : CaseEnds g e (branch_entry f ∷ fs) d.seen) where
      dot_ends : EndsAt g e (cond (is_none_left f.left) (Some (part_close g (record d { entries = fs }) [])) None)
      dot_ends = only_if e (is_none_left f.left) _ (λ none.
          closed n e (record d { entries = fs }) fs d.number d.horizon (d.seen ++ []) d.before w num keep.2
          record { here = h.part.here; above = h.part.above; all = h.part.all; scope = subst (HasEnds h.part.here) (sym (append-nil d.seen)) h.part.scope; entries = h.part.entries.1 }
          (subst (HasPart h.part.here) (sym (append-nil d.seen)) (h.tried none)))

      fork_ends : (l : Line) → EndsAt g (ends_after e l) (ledger_fork g d f fs l)
      fork_ends Dot = dot_ends
      fork_ends (Range high) = record { wide = w; waits = subst (λ es. CaseEnds g e es d.seen) (sym same) h }
      fork_ends Skip = case_ends None h.part Skip
      fork_ends Open = case_ends None h.part Open
      fork_ends (Prune x low high c) = case_ends None h.part (Prune x low high c)
      fork_ends (Bound x low high) = case_ends None h.part (Bound x low high)
      fork_ends Empty = case_ends None h.part Empty
      fork_ends Barred = case_ends None h.part Barred
      fork_ends Next = case_ends None h.part Next
      fork_ends (Branch x) = case_ends None h.part (Branch x)
      fork_ends (Horizon k) = case_ends None h.part (Horizon k)
      fork_ends Stuck = case_ends None h.part Stuck
      fork_ends Goal = case_ends None h.part Goal

  entry_ends : (n e : ℕ) (l : Line) (d : Ledger) (es : List Entry) (k : Fork → List Entry → Option Ledger) → d.entries ≡ es → EntriesKeep g n es d.number → CaseEnds g e es d.seen →
      ((f : Fork) (fs : List Entry) → d.entries ≡ branch_entry f ∷ fs → EntriesKeep g n (branch_entry f ∷ fs) d.number → CaseEnds g e (branch_entry f ∷ fs) d.seen → EndsAt g (ends_after e l) (k f fs)) → EndsAt g (ends_after e l) (at_entry es k)
  entry_ends n e l d [] k same keep h r = tt
  entry_ends n e l d (next_entry xs a z ∷ fs) k same keep h r = tt
  entry_ends n e l d (branch_entry f ∷ fs) k same keep h r = r f fs same keep h

  module _ (laws : VerdictLaws g) where
    goes_ends : (n e : ℕ) (d : Ledger) (u : Awaited) (l : Line) → HasNumbers d.box → AwaitedKeeps g n d u → IsWide g d.box → AwaitedEnds g e d u → EndsAt g (ends_after e l) (goes_at g d u l)
    goes_ends n e d node_awaited l b k w h = line_ends laws n e d w b k.entries h l
    goes_ends n e d (prune_awaited j box) l b k w h = prune_ends laws n e d w b k.0.entries h.0 j box l h.1
    goes_ends n e d body_awaited l b k w h = body_ends laws n e d w b k.entries h l
    goes_ends n e d part_awaited l b k w h = part_ends k.above e d w b k.scope.values k.entries h l
    goes_ends n e d case_awaited l b k w h =
        entry_ends k.above e l d d.entries (λ f fs. ledger_fork g d f fs l) refl k.entries h (λ f fs same keep c. fork_ends k.above e d w b k.scope.values f fs keep same c l)
    goes_ends n e d (ranged_awaited high) l b k w h =
        entry_ends k.above e l d d.entries (λ f fs. ledger_case g d f fs (Some high) l) refl k.entries h (λ f fs same keep c. case_ends k.above e d w b k.scope.values f fs keep (Some high) c.part l)
    goes_ends n e d none_awaited l b k w h = tt

    pub ends_one : (n e : ℕ) (p : Option Ledger) (l : Line) → KeepsSizesAt g n p → EndsAt g e p → EndsAt g (ends_after e l) (goes g p l)
    ends_one n e None l k h = tt
    ends_one n e (Some d) l k h = goes_ends n e d d.awaited l k.box k.waits h.wide h.waits

-- before the first line
pub first_ends : (g : Game) → EndsSoFar g 0 (first_ledger g)
first_ends g = record { wide = length-map g.variables (λ x. domain_values x.domain); waits = tt }

-- ---- what is kept is as large as the ends and the scopes that are open make it
entries_from : (g : Game) (n e : ℕ) (fs : List Entry) (i : ℕ) → EntriesKeep g n fs i → EntriesEnds g e fs → EntriesKeep g (e + i) fs i
entries_from g n e [] i k h = tt
entries_from g n e (branch_entry b ∷ fs) i k h = (k.0, k.1, entries_from g n e fs i k.2 h.1)
entries_from g n e (next_entry xs a z ∷ fs) i k h = (
  h.0 + 1,
  h.1 + (i - 1),
  omega (arith, h.2, k.3),
  k.3,
  record { inside = k.4.inside; values = k.4.values; long = k.4.long; sizes = ends_sizes h.0 xs h.3 },
  entries_from g k.1 h.1 fs (i - 1) k.5 h.4,
)

entries_to : (g : Game) (m n : ℕ) (fs : List Entry) (i : ℕ) → m ≤ n → EntriesKeep g m fs i → EntriesKeep g n fs i
entries_to g m n [] i l h = tt
entries_to g m n (branch_entry b ∷ fs) i l h = (h.0, h.1, entries_to g m n fs i l h.2)
entries_to g m n (next_entry xs a z ∷ fs) i l h = (h.0, h.1, omega (arith, l, h.2), h.3, h.4, h.5)

part_from : (g : Game) (n e m : ℕ) (fs : List Entry) (i : ℕ) (xs : List Seen) (a : List ℤ) → e + length g.scopes ≤ m → PartKeeps g n fs i xs a → PartEnds g e fs xs → PartKeeps g m fs i xs a
part_from g n e m fs i xs a room k h = record {
  here = h.here + 1;
  above = h.above + i;
  all = omega (arith, room, h.all, k.scope.inside);
  scope = record { inside = k.scope.inside; values = k.scope.values; long = k.scope.long; sizes = ends_sizes h.here xs h.scope };
  entries = entries_from g k.above h.above fs i k.entries h.entries;
}

node_from : (g : Game) (n e m : ℕ) (d : Ledger) → e + length g.scopes ≤ m → NodeKeeps g n d → EntriesEnds g e d.entries → NodeKeeps g m d
node_from g n e m d room k h = record { inside = k.inside; entries = entries_to g (e + d.number) m d.entries d.number (omega (arith, room, k.inside)) (entries_from g n e d.entries d.number k.entries h) }

waits_from : (g : Game) (n e m : ℕ) (d : Ledger) (u : Awaited) → e + length g.scopes ≤ m → AwaitedKeeps g n d u → AwaitedEnds g e d u → AwaitedKeeps g m d u
waits_from g n e m d node_awaited room k h = node_from g n e m d room k h
waits_from g n e m d (prune_awaited j box) room k h = (node_from g n e m d room k.0 h.0, k.1)
waits_from g n e m d body_awaited room k h = node_from g n e m d room k h
waits_from g n e m d part_awaited room k h = part_from g n e m d.entries d.number d.seen d.before room k h
waits_from g n e m d case_awaited room k h = part_from g n e m d.entries d.number d.seen d.before room k h.part
waits_from g n e m d (ranged_awaited high) room k h = part_from g n e m d.entries d.number d.seen d.before room k h.part
waits_from g n e m d none_awaited room k h = record { long = k.long; sized = sized_more e m d.verdict (omega (arith, room)) h.sized }

pub sizes_from : (g : Game) (n e m : ℕ) (p : Option Ledger) → e + length g.scopes ≤ m → KeepsSizesAt g n p → EndsAt g e p → KeepsSizesAt g m p
sizes_from g n e m None room k h = tt
sizes_from g n e m (Some d) room k h = record { box = k.box; waits = waits_from g n e m d d.awaited room k.waits h.waits }
