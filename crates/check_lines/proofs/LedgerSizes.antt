-- How long and how large what a ledger keeps is, line by line.
use Rattle.std.proofs.Common.{◌≡◌, ◌≤◌, ◌<◌, ◌+◌, ◌-◌, ℕ, zero, suc, Bool, true, false, not, ◌&&◌, cond, List, [], ◌∷◌, ◌++◌, length, map, take, drop, set, refl, sym, subst, arith, ℤ, Some, None, Option}
use Rattle.std.specs.Prelude.{unsigned_abs, int_lt, nat_le}
use Rattle.std.specs.List.{list_all}
use Rattle.std.proofs.lemmas.Bool.Decides.{nat_tests}
use Rattle.std.proofs.lemmas.Bool.{and_parts, and_from}
use Rattle.qc_model.specs.declared.problem.Sense.{Sense}
use Rattle.qc_model.specs.declared.problem.Sense.TheVariants.{Min, Max}
use Rattle.qc_model.specs.Content.{Game}
use Rattle.qc_model.specs.Demands.{demands}
use Rattle.qc_model.specs.Domains.{Values, Box, values_left, values_within, values_outside, is_within, greatest_from, least_value, box_values, box_without, has_empty, is_none_left, declared_box}
use Rattle.qc_model.specs.Game.{allows, before}
use Rattle.qc_model.specs.Valid.{IsValid, is_number, is_domain}
use Rattle.qc_model.specs.Verdict.{Verdict, lost, exact, at_most, unknown, Seen, seen_barred, seen_skipped, seen_bound, seen_node}
use Rattle.proof_tree.specs.declared.tree.Step.{Step}
use Rattle.proof_tree.specs.declared.tree.Step.TheVariants.{Prune as PruneStep, Bound as BoundStep}
use Rattle.proof_tree.specs.declared.line.Line.{Line}
use Rattle.proof_tree.specs.declared.line.Line.TheVariants.{Horizon, Prune, Bound, Dot, Stuck, Goal, Empty, Barred, Next, Branch, Skip, Open, Range}
use Rattle.proof_tree.specs.Cover.{cover, covered, is_cover}
use Rattle.proof_tree.specs.Place.{Tracked, position, list_after, tracked_variable}
use Rattle.proof_tree.specs.Steps.{after_step, step_marks, best_value, is_legal}
use Rattle.check_lines.specs.State.{Fork, fork_on, fork_after, bars, goes_on, may_branch, may_see, may_take, is_own_step}
use Rattle.check_lines.specs.Awaited.{Awaited, node_awaited, prune_awaited, body_awaited, part_awaited, case_awaited, ranged_awaited, none_awaited}
use Rattle.joins.specs.Verdicts.{verdict_at}
use Rattle.check_lines.specs.Ledger.{Ledger, Entry, next_entry, branch_entry, part_closed, node_closed, part_close, node_close, spot_on, space_left, no_scope_left, sees_horizon, marks_of, ledger_end, may_begin, begun, begins, ledger_body, ledger_node, ledger_prune, passed_over, gone_into, ledger_case, ledger_fork, at_entry, goes_at, goes}
use Rattle.check_lines.specs.LedgerHeld.{first_ledger, goes_through}
use Rattle.joins.specs.Joins.{IsLong}
use Rattle.joins.specs.Sizes.{AreLong, IsSized, HasSizes, AreNumbers}
use Rattle.joins.proofs.Lengths.{long_join, verdict_long, stuck_long, goal_long}
use Rattle.joins.proofs.Sizing.{sizes_both, verdict_sized, stuck_sized, goal_sized}
use Rattle.check_lines.specs.LedgerSizes.{HasNumbers, VerdictLaws, ScopeKeeps, EntriesKeep, PartKeeps, ClosesKeep, NodeKeeps, AwaitedKeeps, KeepsSizes, KeepsSizesAt, NodeFits}
use Rattle.model_arguments.proofs.Boxes.{left_small}
use Rattle.box_laws.proofs.Filters.{all_filter, all_take, all_drop}
use Rattle.box_laws.proofs.Readings.{least_number}
use Rattle.box_laws.proofs.Declared.{declared_is}

pub all_set : {X : Type 0} (p : X → Bool) (xs : List X) (n : ℕ) (x : X) → list_all p xs ≡ true → p x ≡ true → list_all p (set xs n x) ≡ true
all_set p [] n x h e = refl
all_set p (y ∷ xs) zero x h e = and_from (p x) (list_all p xs) e (and_parts (p y) (list_all p xs) h).1
all_set p (y ∷ xs) (suc n) x h e = let r = and_parts (p y) (list_all p xs) h in and_from (p y) (list_all p (set xs n x)) r.0 (all_set p xs n x r.1 e)

pub left_numbers : (box : Box) (x : ℕ) → HasNumbers box → AreNumbers (values_left box x)
left_numbers [] zero h = refl
left_numbers [] (suc x) h = refl
left_numbers (vs ∷ box) zero h = (and_parts (list_all is_number vs) (list_all (list_all is_number) box) h).0
left_numbers (vs ∷ box) (suc x) h = left_numbers box x (and_parts (list_all is_number vs) (list_all (list_all is_number) box) h).1

without_numbers : (box : Box) (x : ℕ) (low high : ℤ) → HasNumbers box → HasNumbers (box_without box x low high)
without_numbers box x low high h =
    all_set (list_all is_number) box x (values_outside low high (values_left box x)) h (all_filter is_number (λ v. not (is_within low high v)) (values_left box x) (left_numbers box x h))

pub step_numbers : (step : Step) (box : Box) → HasNumbers box → HasNumbers (after_step step box)
step_numbers (PruneStep x low high c) box h = without_numbers box x.0 low high h
step_numbers (BoundStep x low high) box h = without_numbers box x.0 low high h

greatest_number : (n : ℤ) (vs : Values) → is_number n ≡ true → AreNumbers vs → is_number (greatest_from n vs) ≡ true
greatest_number n [] e h = e
greatest_number n (v ∷ vs) e h = let r = and_parts (is_number v) (list_all is_number vs) h in greatest_number (cond (int_lt n v) v n) vs (one (int_lt n v) r.0) r.1
  where
    one : (b : Bool) → is_number v ≡ true → is_number (cond b v n) ≡ true
    one true f = f
    one false f = e

least_is : (vs : Values) → AreNumbers vs → is_number (least_value vs) ≡ true
least_is [] h = refl
least_is (v ∷ vs) h = least_number (v ∷ vs) refl h

best_is : (s : Sense) (vs : Values) → AreNumbers vs → is_number (best_value s vs) ≡ true
best_is Min vs h = least_is vs h
best_is Max [] h = refl
best_is Max (v ∷ vs) h = let r = and_parts (is_number v) (list_all is_number vs) h in greatest_number v vs r.0 r.1

box_numbers : (box : Box) → HasNumbers box → AreNumbers (box_values box)
box_numbers [] h = refl
box_numbers (vs ∷ box) h =
    let r = and_parts (list_all is_number vs) (list_all (list_all is_number) box) h in
    and_from (is_number (least_value vs)) (list_all is_number (box_values box)) (least_is vs r.0) (box_numbers box r.1)

pub position_numbers : (g : Game) (i : ℕ) (box : Box) → HasNumbers box → AreNumbers (position g i box)
position_numbers g i box h = box_numbers (take (before g i) box) (all_take (list_all is_number) (before g i) box h)

-- what was seen
sizes_more : (m n : ℕ) (xs : List Seen) → m ≤ n → HasSizes m xs → HasSizes n xs
sizes_more m n xs l h = λ k. omega (arith, l, h k)

pub sized_more : (m n : ℕ) (v : Verdict) → m ≤ n → IsSized m v → IsSized n v
sized_more m n lost l h = h
sized_more m n (exact w) l h = λ k. omega (arith, l, h k)
sized_more m n (at_most p) l h = omega (arith, l, h)
sized_more m n unknown l h = h

pub node_sizes : (n : ℕ) (v : Verdict) → IsSized n v → HasSizes n (seen_node v ∷ [])
node_sizes n lost h = λ k. omega arith
node_sizes n (exact w) h = λ k. omega (arith, h k)
node_sizes n (at_most p) h = λ k. omega (arith, h)
node_sizes n unknown h = λ k. omega arith

number_size : (m : ℤ) → is_number m ≡ true → unsigned_abs m ≤ 1000000000
number_size m h = grind (arith, nat_tests)

-- the marks of one step
pub record OneMark (g : Game) (i : ℕ) (ys : List Seen) : Type 0 where
  pub long : AreLong g i ys
  pub sizes : HasSizes 1 ys

pub none_seen : (g : Game) (i : ℕ) → OneMark g i []
none_seen g i = record { long = tt; sizes = λ k. omega arith }

pub one_mark : (g : Game) (i : ℕ) (t : Option Tracked) (step : Step) (box : Box) → HasNumbers box → OneMark g i (map seen_bound (step_marks t (step ∷ []) box))
one_mark g i t (PruneStep x low high c) box h = none_seen g i
one_mark g i None (BoundStep x low high) box h = none_seen g i
one_mark g i (Some t) (BoundStep x low high) box h =
    let vs = values_within low high (values_left box x.0) in
    let small = number_size (best_value t.sense vs) (best_is t.sense vs (all_filter is_number (is_within low high) (values_left box x.0) (left_numbers box x.0 h))) in
    record { long = tt; sizes = λ k. omega (arith, small) }

entries_more : (g : Game) (m n : ℕ) (fs : List Entry) (i : ℕ) → m ≤ n → EntriesKeep g m fs i → EntriesKeep g n fs i
entries_more g m n [] i l h = tt
entries_more g m n (branch_entry b ∷ fs) i l h = (h.0, h.1, entries_more g m n fs i l h.2)
entries_more g m n (next_entry xs a z ∷ fs) i l h = (h.0, h.1, omega (arith, l, h.2), h.3, h.4, h.5)

part_more : (g : Game) (m n : ℕ) (fs : List Entry) (i : ℕ) (xs : List Seen) (a : List ℤ) → m ≤ n → PartKeeps g m fs i xs a → PartKeeps g n fs i xs a
part_more g m n fs i xs a l h = record { here = h.here; above = h.above; all = omega (arith, l, h.all); scope = h.scope; entries = h.entries }

module _ (g : Game) where
  -- one line more, and what it shows
  pub part_also : (n : ℕ) (fs : List Entry) (i : ℕ) (xs ys : List Seen) (a : List ℤ) → OneMark g i ys → PartKeeps g n fs i xs a → ClosesKeep g (suc n) fs i (xs ++ ys) a
  part_also n fs i xs ys a k h = record {
    part = record {
      here = h.here + 1;
      above = h.above;
      all = omega (arith, h.all);
      scope = record {
        inside = h.scope.inside;
        values = h.scope.values;
        long = long_join (demands g (suc i)) xs ys h.scope.long k.long;
        sizes = sizes_both h.here 1 xs ys h.scope.sizes k.sizes;
      };
      entries = h.entries;
    };
    some = omega arith;
  }

  pub one_node : (m k n : ℕ) (fs : List Entry) (i : ℕ) (up : List Seen) (above : List ℤ) (z : Option ℕ) (v : Verdict) → 1 ≤ m → m + k ≤ n → IsLong g i v → IsSized m v →
      EntriesKeep g k (next_entry up above z ∷ fs) i → ClosesKeep g n fs (i - 1) (up ++ seen_node v ∷ []) above × NodeFits g n (i - 1) up v
  one_node m k n fs i up above z v some l long sized h =
      let same : i ≡ suc (i - 1) = omega (arith, h.3) in
      let up_long : IsLong g (suc (i - 1)) v = subst (λ j. IsLong g j v) same long in
      let both_sizes : HasSizes (h.0 + m) (up ++ seen_node v ∷ []) = sizes_both h.0 m up (seen_node v ∷ []) h.4.sizes (node_sizes m v sized) in (
        record {
          part = record {
            here = h.0 + m;
            above = h.1;
            all = omega (arith, h.2, l);
            scope = record {
              inside = h.4.inside;
              values = h.4.values;
              long = long_join (demands g (suc (i - 1))) up (seen_node v ∷ []) h.4.long (up_long, tt);
              sizes = both_sizes;
            };
            entries = h.5;
          };
          some = omega (arith, some);
        },
        record { long = up_long; sizes = sizes_more (h.0 + m) n (up ++ seen_node v ∷ []) (omega (arith, h.2, l)) both_sizes },
      )

  module _ (laws : VerdictLaws g) where
    -- the scope's own tree has ended below another
    pub closes_up : (n : ℕ) (fs : List Entry) (i : ℕ) (xs up : List Seen) (a above : List ℤ) (z : Option ℕ) → ClosesKeep g n (next_entry up above z ∷ fs) i xs a →
        ClosesKeep g n fs (i - 1) (up ++ seen_node (verdict_at g i a xs) ∷ []) above × NodeFits g n (i - 1) up (verdict_at g i a xs)
    closes_up n fs i xs up a above z h =
        let p = h.part in
        one_node p.here p.above n fs i up above z (verdict_at g i a xs) h.some p.all (laws.long i a xs p.scope.inside p.scope.long) (laws.sized i a xs p.here p.scope.values p.scope.sizes h.some) p.entries

    pub part_keeps : (n : ℕ) (d : Ledger) (fs : List Entry) (i : ℕ) (z : Option ℕ) (xs : List Seen) (a : List ℤ) → HasNumbers d.box → ClosesKeep g n fs i xs a → KeepsSizes g n (part_closed g d fs i z xs a)
    part_keeps n d [] i z xs a b h = record {
      box = b;
      waits = record {
        long = laws.long i a xs h.part.scope.inside h.part.scope.long;
        sized = sized_more h.part.here n (verdict_at g i a xs) (omega (arith, h.part.all)) (laws.sized i a xs h.part.here h.part.scope.values h.part.scope.sizes h.some);
      };
    }
    part_keeps n d (branch_entry f ∷ fs) i z xs a b h = record { box = h.part.entries.0; waits = h.part }
    part_keeps n d (next_entry up above y ∷ fs) i z xs a b h = part_keeps n d fs (i - 1) y (up ++ seen_node (verdict_at g i a xs) ∷ []) above b (closes_up n fs i xs up a above y h).0

    node_keeps : (n : ℕ) (d : Ledger) (fs : List Entry) (i : ℕ) (z : Option ℕ) (v : Verdict) → HasNumbers d.box → IsLong g i v → IsSized 1 v → EntriesKeep g n fs i → KeepsSizes g (suc n) (node_closed g d fs i z v)
    node_keeps n d [] i z v b long sized h = record { box = b; waits = record { long = long; sized = sized_more 1 (suc n) v (omega arith) sized } }
    node_keeps n d (branch_entry f ∷ fs) i z v b long sized h = record { box = b; waits = record { long = long; sized = sized_more 1 (suc n) v (omega arith) sized } }
    node_keeps n d (next_entry up above y ∷ fs) i z v b long sized h =
        part_keeps (suc n) d fs (i - 1) y (up ++ seen_node v ∷ []) above b (one_node 1 n (suc n) fs i up above y v (omega arith) (omega arith) long sized h).0

    only_keeps : (n : ℕ) (b : Bool) (d : Ledger) → KeepsSizes g n d → KeepsSizesAt g n (cond b (Some d) None)
    only_keeps n true d h = h
    only_keeps n false d h = tt

    only_if : (n : ℕ) (b : Bool) (p : Option Ledger) → (b ≡ true → KeepsSizesAt g n p) → KeepsSizesAt g n (cond b p None)
    only_if n true p h = h refl
    only_if n false p h = tt

    module _ (n : ℕ) (d : Ledger) (b : HasNumbers d.box) where
      closes : (c : Bool) (ys : List Seen) → OneMark g d.number ys → PartKeeps g n d.entries d.number d.seen d.before → KeepsSizesAt g (suc n) (cond c (Some (part_close g d ys)) None)
      closes c ys k h = only_keeps (suc n) c (part_close g d ys) (part_keeps (suc n) d d.entries d.number d.horizon (d.seen ++ ys) d.before b (part_also n d.entries d.number d.seen ys d.before k h))

      steps : (step : Step) → PartKeeps g n d.entries d.number d.seen d.before →
          KeepsSizesAt g (suc n) (cond (is_own_step g (spot_on g d) step d.box) (Some (record d { box = after_step step d.box; seen = d.seen ++ marks_of g (spot_on g d) step d.box; awaited = part_awaited })) None)
      steps step h =
          let s = spot_on g d in
          let marks = one_mark g d.number (tracked_variable g s.later s.number (list_after g s.later s.demands)) step d.box b in
          only_keeps (suc n) (is_own_step g s step d.box) _
          record { box = step_numbers step d.box b; waits = (part_also n d.entries d.number d.seen (marks_of g s step d.box) d.before marks h).part }

      enters : (c : Bool) → PartKeeps g n d.entries d.number d.seen d.before →
          KeepsSizesAt g (suc n) (cond c (Some (record d { entries = next_entry d.seen d.before d.horizon ∷ d.entries; number = d.number + 1; awaited = node_awaited })) None)
      enters c h = only_keeps (suc n) c _
          record {
            box = b;
            waits = record {
              inside = omega (arith, h.scope.inside);
              entries = (h.here, h.above, omega (arith, h.all), omega arith, subst (λ i. ScopeKeeps g h.here i d.seen d.before) back h.scope, subst (EntriesKeep g h.above d.entries) back h.entries);
            };
          }
        where
          back : d.number ≡ (d.number + 1) - 1
          back = omega arith

      splits : (c : Bool) (x : ℕ) → PartKeeps g n d.entries d.number d.seen d.before → KeepsSizesAt g (suc n) (cond c (Some (record d { entries = branch_entry (fork_on x d.box) ∷ d.entries; awaited = case_awaited })) None)
      splits c x h = only_keeps (suc n) c _
          record { box = b; waits = record { here = h.here; above = h.above; all = omega (arith, h.all); scope = h.scope; entries = (b, left_numbers d.box x b, h.entries) } }

      end_keeps : (l : Line) → PartKeeps g n d.entries d.number d.seen d.before → KeepsSizesAt g (suc n) (ledger_end g d l)
      end_keeps (Prune x low high c) h = steps (PruneStep x low high c) h
      end_keeps (Bound x low high) h = steps (BoundStep x low high) h
      end_keeps Empty h = closes (has_empty d.box) [] (none_seen g d.number) h
      end_keeps Barred h = closes (bars g d.number d.box) (seen_barred ∷ []) record { long = tt; sizes = λ k. omega arith } h
      end_keeps Next h = enters (goes_on g d.number d.box && space_left d) h
      end_keeps (Branch x) h = splits (may_branch g d.number x.0 d.box && space_left d) x.0 h
      end_keeps (Horizon k) h = tt
      end_keeps Dot h = tt
      end_keeps Stuck h = tt
      end_keeps Goal h = tt
      end_keeps Skip h = tt
      end_keeps Open h = tt
      end_keeps (Range high) h = tt

    module _ (n : ℕ) (d : Ledger) (b : HasNumbers d.box) (h : NodeKeeps g n d) where
      begins_keeps : (l : Line) → KeepsSizesAt g (suc n) (begins g d l)
      begins_keeps l = only_if (suc n) (may_begin g d) (ledger_end g (begun g d) l) (λ e.
          end_keeps n (begun g d) b l
          record {
            here = 0;
            above = n;
            all = omega arith;
            scope = record { inside = more (length g.scopes) d.number (and_parts (not (sees_horizon d)) (not (no_scope_left g d)) e).1; values = position_numbers g d.number d.box b; long = tt; sizes = λ k. omega arith };
            entries = h.entries;
          })
        where
          not_true : (b : Bool) → not b ≡ true → b ≡ false
          not_true true e = cc
          not_true false e = refl

          more : (m n : ℕ) → not (nat_le m n) ≡ true → n < m
          more m n e = let f = not_true (nat_le m n) e in grind (arith, nat_tests)

      ends : (c : Bool) (v : Verdict) → IsLong g d.number v → IsSized 1 v → KeepsSizesAt g (suc n) (cond c (Some (node_close g d v)) None)
      ends c v long sized = only_keeps (suc n) c (node_close g d v) (node_keeps n d d.entries d.number d.horizon v b long sized h.entries)

      body_keeps : (l : Line) → KeepsSizesAt g (suc n) (ledger_body g d l)
      body_keeps Stuck = let a = position g d.number d.box in ends (sees_horizon d) _ (laws.stuck_long d.number a) (laws.stuck_sized d.number a (position_numbers g d.number d.box b))
      body_keeps Goal =
          let a = position g d.number d.box in
          ends (not (sees_horizon d) && no_scope_left g d) _ (laws.goal_long d.number a (allows g d.number a)) (laws.goal_sized d.number a (allows g d.number a) (position_numbers g d.number d.box b))
      body_keeps (Prune x low high c) = begins_keeps (Prune x low high c)
      body_keeps (Bound x low high) = begins_keeps (Bound x low high)
      body_keeps Empty = begins_keeps Empty
      body_keeps Barred = begins_keeps Barred
      body_keeps Next = begins_keeps Next
      body_keeps (Branch x) = begins_keeps (Branch x)
      body_keeps (Horizon k) = begins_keeps (Horizon k)
      body_keeps Dot = begins_keeps Dot
      body_keeps Skip = begins_keeps Skip
      body_keeps Open = begins_keeps Open
      body_keeps (Range high) = begins_keeps (Range high)

      still : NodeKeeps g (suc n) d
      still = record { inside = h.inside; entries = entries_more g n (suc n) d.entries d.number (omega arith) h.entries }

      line_keeps : (l : Line) → KeepsSizesAt g (suc n) (ledger_node g d l)
      line_keeps (Horizon zero) = tt
      line_keeps (Horizon (suc k)) = only_keeps (suc n) (may_see k (spot_on g d)) _ record { box = b; waits = (record { inside = still.inside; entries = still.entries }, b) }
      line_keeps Stuck = body_keeps Stuck
      line_keeps Goal = body_keeps Goal
      line_keeps (Prune x low high c) = body_keeps (Prune x low high c)
      line_keeps (Bound x low high) = body_keeps (Bound x low high)
      line_keeps Empty = body_keeps Empty
      line_keeps Barred = body_keeps Barred
      line_keeps Next = body_keeps Next
      line_keeps (Branch x) = body_keeps (Branch x)
      line_keeps Dot = body_keeps Dot
      line_keeps Skip = body_keeps Skip
      line_keeps Open = body_keeps Open
      line_keeps (Range high) = body_keeps (Range high)

      prunes : (k : ℕ) (box : Box) (step : Step) → HasNumbers box → KeepsSizesAt g (suc n) (cond (is_legal g d.number (suc k) None step d.box) (Some (record d { box = after_step step d.box; awaited = prune_awaited k box })) None)
      prunes k box step e = only_keeps (suc n) (is_legal g d.number (suc k) None step d.box) _ record { box = step_numbers step d.box b; waits = (record { inside = still.inside; entries = still.entries }, e) }

      prune_keeps : (k : ℕ) (box : Box) (l : Line) → HasNumbers box → KeepsSizesAt g (suc n) (ledger_prune g d k box l)
      prune_keeps k box (Prune x low high c) e = prunes k box (PruneStep x low high c) e
      prune_keeps k box (Bound x low high) e = prunes k box (BoundStep x low high) e
      prune_keeps k box Dot e = only_keeps (suc n) (has_empty d.box) _ record { box = e; waits = record { inside = still.inside; entries = still.entries } }
      prune_keeps k box (Horizon j) e = tt
      prune_keeps k box Stuck e = tt
      prune_keeps k box Goal e = tt
      prune_keeps k box Empty e = tt
      prune_keeps k box Barred e = tt
      prune_keeps k box Next e = tt
      prune_keeps k box (Branch x) e = tt
      prune_keeps k box Skip e = tt
      prune_keeps k box Open e = tt
      prune_keeps k box (Range high) e = tt

    module _ (n : ℕ) (d : Ledger) (b : HasNumbers d.box) (f : Fork) (fs : List Entry) (upto : Option ℤ) (h : PartKeeps g n (branch_entry f ∷ fs) d.number d.seen d.before) where
      left_over : EntriesKeep g h.above (branch_entry (fork_after upto f) ∷ fs) d.number
      left_over = (h.entries.0, all_drop is_number (cover upto f.left) f.left h.entries.1, h.entries.2)

      passes : (c is_open : Bool) → KeepsSizesAt g (suc n) (cond c (Some (passed_over d f fs upto is_open)) None)
      passes c is_open = only_keeps (suc n) c (passed_over d f fs upto is_open)
          record {
            box = b;
            waits = (part_also n (branch_entry (fork_after upto f) ∷ fs) d.number d.seen (seen_skipped ∷ []) d.before record { long = tt; sizes = λ k. omega arith }
                record { here = h.here; above = h.above; all = h.all; scope = h.scope; entries = left_over }).part;
          }

      goes_in : (l : Line) → KeepsSizesAt g (suc n) (cond (may_take upto f) (ledger_end g (gone_into d f fs upto) l) None)
      goes_in l = only_if (suc n) (may_take upto f) (ledger_end g (gone_into d f fs upto) l) (λ e.
          end_keeps n (gone_into d f fs upto) (all_set (list_all is_number) f.box f.variable (covered upto f.left) h.entries.0 (all_take is_number (cover upto f.left) f.left h.entries.1)) l
          record { here = h.here; above = h.above; all = h.all; scope = h.scope; entries = left_over })

      case_keeps : (l : Line) → KeepsSizesAt g (suc n) (ledger_case g d f fs upto l)
      case_keeps Skip = passes (is_cover upto f.left) false
      case_keeps Open = passes (is_cover upto f.left) true
      case_keeps (Prune x low high c) = goes_in (Prune x low high c)
      case_keeps (Bound x low high) = goes_in (Bound x low high)
      case_keeps Empty = goes_in Empty
      case_keeps Barred = goes_in Barred
      case_keeps Next = goes_in Next
      case_keeps (Branch x) = goes_in (Branch x)
      case_keeps (Horizon k) = goes_in (Horizon k)
      case_keeps Dot = goes_in Dot
      case_keeps Stuck = goes_in Stuck
      case_keeps Goal = goes_in Goal
      case_keeps (Range high) = goes_in (Range high)

    module _ (n : ℕ) (d : Ledger) (b : HasNumbers d.box) (f : Fork) (fs : List Entry) (h : PartKeeps g n (branch_entry f ∷ fs) d.number d.seen d.before) where
      fork_keeps : (e : d.entries ≡ branch_entry f ∷ fs) (l : Line) → KeepsSizesAt g (suc n) (ledger_fork g d f fs l)
      fork_keeps e Dot = closes n (record d { entries = fs }) b (is_none_left f.left) [] (none_seen g d.number) record { here = h.here; above = h.above; all = h.all; scope = h.scope; entries = h.entries.2 }
      fork_keeps e (Range high) =
          record { box = b; waits = part_more g n (suc n) d.entries d.number d.seen d.before (omega arith) (subst (λ es. PartKeeps g n es d.number d.seen d.before) (sym e) h) }
      fork_keeps e Skip = case_keeps n d b f fs None h Skip
      fork_keeps e Open = case_keeps n d b f fs None h Open
      fork_keeps e (Prune x low high c) = case_keeps n d b f fs None h (Prune x low high c)
      fork_keeps e (Bound x low high) = case_keeps n d b f fs None h (Bound x low high)
      fork_keeps e Empty = case_keeps n d b f fs None h Empty
      fork_keeps e Barred = case_keeps n d b f fs None h Barred
      fork_keeps e Next = case_keeps n d b f fs None h Next
      fork_keeps e (Branch x) = case_keeps n d b f fs None h (Branch x)
      fork_keeps e (Horizon k) = case_keeps n d b f fs None h (Horizon k)
      fork_keeps e Stuck = case_keeps n d b f fs None h Stuck
      fork_keeps e Goal = case_keeps n d b f fs None h Goal

    entry_keeps : (n : ℕ) (d : Ledger) (es : List Entry) (k : Fork → List Entry → Option Ledger) → d.entries ≡ es → PartKeeps g n es d.number d.seen d.before →
        ((f : Fork) (fs : List Entry) → d.entries ≡ branch_entry f ∷ fs → PartKeeps g n (branch_entry f ∷ fs) d.number d.seen d.before → KeepsSizesAt g (suc n) (k f fs)) → KeepsSizesAt g (suc n) (at_entry es k)
    entry_keeps n d [] k e h r = tt
    entry_keeps n d (next_entry xs a z ∷ fs) k e h r = tt
    entry_keeps n d (branch_entry f ∷ fs) k e h r = r f fs e h

    goes_keeps : (n : ℕ) (d : Ledger) (w : Awaited) (l : Line) → HasNumbers d.box → AwaitedKeeps g n d w → KeepsSizesAt g (suc n) (goes_at g d w l)
    goes_keeps n d node_awaited l b h = line_keeps n d b h l
    goes_keeps n d (prune_awaited k box) l b h = prune_keeps n d b h.0 k box l h.1
    goes_keeps n d body_awaited l b h = body_keeps n d b h l
    goes_keeps n d part_awaited l b h = end_keeps n d b l h
    goes_keeps n d case_awaited l b h = entry_keeps n d d.entries (λ f fs. ledger_fork g d f fs l) refl h (λ f fs e k. fork_keeps n d b f fs k e l)
    goes_keeps n d (ranged_awaited high) l b h = entry_keeps n d d.entries (λ f fs. ledger_case g d f fs (Some high) l) refl h (λ f fs e k. case_keeps n d b f fs (Some high) k l)
    goes_keeps n d none_awaited l b h = tt

    pub keeps_one : (n : ℕ) (d : Ledger) (l : Line) → KeepsSizes g n d → KeepsSizesAt g (suc n) (goes g (Some d) l)
    keeps_one n d l h = goes_keeps n d d.awaited l h.box h.waits

-- what scopes come to in a valid game
pub verdict_laws : (g : Game) → IsValid g → VerdictLaws g
verdict_laws g valid = record {
  long = verdict_long g;
  sized = λ i a xs n h e some. verdict_sized g i a xs n valid h e some;
  stuck_long = λ i a. stuck_long (drop i g.scopes) g (demands g i) a;
  stuck_sized = λ i a h. stuck_sized (drop i g.scopes) g (demands g i) a valid h;
  goal_long = λ i a holds. goal_long g holds (demands g i) a;
  goal_sized = λ i a holds h. goal_sized g holds (demands g i) a valid h;
}

-- before the first line
all_left : (box : Box) → ((y : ℕ) → AreNumbers (values_left box y)) → HasNumbers box
all_left [] h = refl
all_left (vs ∷ box) h = and_from (list_all is_number vs) (list_all (list_all is_number) box) (h 0) (all_left box (λ y. h (suc y)))

pub first_keeps : (g : Game) → list_all (λ x. is_domain x.domain) g.variables ≡ true → KeepsSizes g 0 (first_ledger g)
first_keeps g d = record {
  box = all_left (declared_box g) (λ y. left_small g (declared_box g) y d (declared_is g (declared_box g) d refl));
  waits = record { inside = omega arith; entries = tt };
}

-- after any lines
pub keeps_through : (g : Game) → VerdictLaws g → (ls : List Line) (n : ℕ) (p : Option Ledger) → KeepsSizesAt g n p → KeepsSizesAt g (n + length ls) (goes_through g p ls)
keeps_through g laws [] n p h = subst (λ m. KeepsSizesAt g m p) none h
  where
    none : n ≡ n + 0
    none = omega arith
keeps_through g laws (l ∷ ls) n p h = subst (λ m. KeepsSizesAt g m (goes_through g (goes g p l) ls)) next (keeps_through g laws ls (suc n) (goes g p l) (one p h))
  where
    next : suc n + length ls ≡ n + suc (length ls)
    next = omega arith

    one : (q : Option Ledger) → KeepsSizesAt g n q → KeepsSizesAt g (suc n) (goes g q l)
    one None k = tt
    one (Some d) k = keeps_one g laws n d l k
