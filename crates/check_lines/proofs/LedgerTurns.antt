-- The ledger after each line.
use Rattle.std.proofs.Common.{◌≡◌, ℕ, zero, suc, ◌<◌, ◌-◌, ◌+◌, ◌^◌, min, Bool, true, false, not, ◌&&◌, cond, List, [], ◌∷◌, ◌++◌, length, map, take, drop, refl, sym, ap, ◌∙◌, subst, arith, ℤ, Some, None, Option, inl, inr, add-one, append-nil}
use Rattle.std.specs.Prelude.{nat_lt, nat_le}
use Rattle.std.proofs.lemmas.Bool.Decides.{nat_tests}
use Rattle.std.proofs.lemmas.Bool.{and_parts}
use Rattle.qc_model.specs.declared.problem.VarId.{VarId}
use Rattle.qc_model.specs.declared.problem.Condition.{Condition}
use Rattle.qc_model.specs.declared.problem.Scope.{Scope}
use Rattle.qc_model.specs.Content.{Game}
use Rattle.qc_model.specs.Demands.{demands, demands_from, demands_after}
use Rattle.qc_model.specs.Domains.{Box, is_none_left, has_empty}
use Rattle.qc_model.specs.Verdict.{Verdict, Seen, seen_barred, seen_skipped, seen_bound}
use Rattle.qc_model.specs.ForallVerdict.{goal_verdict}
use Rattle.qc_model.specs.Game.{allows}
use Rattle.proof_tree.specs.declared.tree.Step.{Step}
use Rattle.proof_tree.specs.declared.tree.Step.TheVariants.{Prune as PruneStep, Bound as BoundStep}
use Rattle.proof_tree.specs.Cover.{covered, is_cover, box_to}
use Rattle.proof_tree.specs.Place.{position, is_goal, list_after, tracked_variable}
use Rattle.proof_tree.specs.Read.{marks}
use Rattle.proof_tree.specs.Steps.{is_legal, after_step, step_marks}
use Rattle.proof_tree.specs.InPlace.{is_horizon}
use Rattle.proof_tree.specs.Finding.{Finding, Leaf, leaf_barred, leaf_skipped, leaf_bound, seen_of, stuck_finding, goal_finding, kind_stuck}
use Rattle.qc_model.specs.declared.problem.Kind.{Kind}
use Rattle.qc_model.specs.declared.problem.Kind.TheVariants.{Exists, Forall}
use Rattle.qc_model.specs.ForallVerdict.{stuck_verdict}
use Rattle.proof_tree.specs.declared.line.Line.{Line}
use Rattle.proof_tree.specs.declared.line.Line.TheVariants.{Horizon, Prune, Bound, Dot, Stuck, Goal, Empty, Barred, Next, Branch, Skip, Open, Range}
use Rattle.check_lines.specs.Tally.{Tally, ◌&◌, test, taken}
use Rattle.check_lines.specs.State.{Spot, Own, Fork, Above, at_root, below, Within, whole_tree, in_case, State, node_due, prune_due, body_due, end_due, case_due, ranged_due, ended, wrong, with_leaf, with_leaves, with_horizon, after_node, after_part, own_at, spot_after, goes_on, bars, may_branch, may_see, may_take, fork_on, fork_after, is_own_step, after_step_line, after_prune_line, at_end, at_body, at_node, at_prune, at_case, at_fork, step}
use Rattle.check_lines.specs.Awaited.{Awaited, node_awaited, prune_awaited, body_awaited, part_awaited, case_awaited, ranged_awaited, none_awaited, one_more}
use Rattle.check_lines.specs.Nests.{nests_above, nests_within}
use Rattle.joins.specs.Verdicts.{stuck_of}
use Rattle.check_lines.specs.Ledger.{Ledger, Entry, next_entry, branch_entry, place_at, part_close, node_close, spot_on, space_left, no_scope_left, sees_horizon, marks_of, ledger_end, may_begin, begun, ledger_body, ledger_node, ledger_prune, passed_over, gone_into, ledger_case, ledger_fork, at_entry, goes_at, goes}
use Rattle.check_lines.specs.LedgerHeld.{IsOwnOf, AboveIs, WithinIs, Counts, NodeIs, PartIs, CaseIs, Tells, Leads}
use Rattle.check_lines.proofs.Offs.{node_flag, part_flag, end_off}
use Rattle.check_lines.proofs.Facts.{goal_at, next_drop, failed, too_deep, or_false, or_true, some_open, one_later}
use Rattle.check_lines.proofs.LedgerClosing.{own_also, node_leads, part_leads}

pub demands_step : (g : Game) (ss : List Scope) (i : ℕ) (d : List Condition) → i < length ss → list_after g (drop i ss) (demands_from g (take i ss) d) ≡ demands_from g (take (suc i) ss) d
demands_step g [] i d h = absurd (omega arith)
demands_step g (s ∷ ss) zero d h = refl
demands_step g (s ∷ ss) (suc i) d h = demands_step g ss i (demands_after g s.kind s.condition d) (omega arith)

place_next : (g : Game) (s : Spot) (i : ℕ) (z : Option ℕ) → i < length g.scopes → s ≡ place_at g i z → spot_after g s ≡ place_at g (i + 1) z
place_next g s i z h e =
    ap (spot_after g) e
    ∙ (ap (λ (ss : List Scope). let p : Spot = record { later = ss; number = suc i; demands = list_after g (drop i g.scopes) (demands g i); horizon = z } in p) (next_drop g.scopes i)
    ∙ (ap (λ (ds : List Condition). let p : Spot = record { later = drop (suc i) g.scopes; number = suc i; demands = ds; horizon = z } in p) (demands_step g g.scopes i [] h)
    ∙ ap (λ m. place_at g m z) (sym (add-one i))))

pub stuck_comes : (g : Game) (later : List Scope) (d : List Condition) (a : List ℤ) → stuck_of later g d a ≡ (stuck_finding later g d a).verdict
stuck_comes g [] d a = refl
stuck_comes g (s ∷ later) d a = by s.kind
  where
    by : (k : Kind) → stuck_verdict g k d a ≡ (kind_stuck k g d a).verdict
    by Exists = refl
    by Forall = refl

-- the value of an own condition comes of an own tree alone
stuck_owns : (g : Game) (later : List Scope) (d : List Condition) (a : List ℤ) → (stuck_finding later g d a).own ≡ None
stuck_owns g [] d a = refl
stuck_owns g (s ∷ later) d a = by s.kind
  where
    by : (k : Kind) → (kind_stuck k g d a).own ≡ None
    by Exists = refl
    by Forall = refl

pub map_both : (ms : List ℤ) → map seen_bound ms ≡ map seen_of (map leaf_bound ms)
map_both [] = refl
map_both (m ∷ ms) = ap (λ us. seen_bound m ∷ us) (map_both ms)

-- an entry for each node and branch that is open
mutual
  pub above_count : (g : Game) (above : Above) (fs : List Entry) (i : ℕ) → AboveIs g above fs i → nests_above above ≡ length fs
  above_count g at_root fs i h = sym (ap length h)
  above_count g (below o w around) fs i h = ap suc (within_count g around h.3 h.4 h.8) ∙ sym (ap length h.5)

  pub within_count : (g : Game) (around : Within) (fs : List Entry) (i : ℕ) → WithinIs g around fs i → nests_within around ≡ length fs
  within_count g (whole_tree above) fs i h = above_count g above fs i h
  within_count g (in_case b around) fs i h = ap suc (within_count g around h.0 i h.2) ∙ sym (ap length h.1)

module _ (n : Tally) (d : Ledger) (t : Counts n d) (k : Bool) (e : k ≡ true) where
  still_in_place : (n.in_place && k) ≡ true
  still_in_place = ap (λ b. b && k) t.in_place ∙ e

  counts_test : Counts (n & test k) d
  counts_test = record {
    in_place = still_in_place;
    turns = let h : n.turns ≡ n.turns + 0 = omega arith in t.turns ∙ ap (λ m. min m (2 ^ 64 - 1)) h;
    opens = let h : n.opens ≡ n.opens + 0 = omega arith in t.opens ∙ ap (nat_lt 0) h;
  }

module _ (g : Game) where
  module _ (n : Tally) (around : Within) (o : Own) (box : Box) (d : Ledger) (x : d.box ≡ box) (h : PartIs g n around o d) where
    number_is : d.number ≡ o.spot.number
    number_is = sym (ap (λ (s : Spot). s.number) h.own.place)

    same_test : (p : ℕ → Box → Bool) → p d.number d.box ≡ p o.spot.number box
    same_test p = ap (λ i. p i d.box) number_is ∙ ap (p o.spot.number) x

    spot_test : (p : Spot → Box → Bool) → p (spot_on g d) d.box ≡ p o.spot box
    spot_test p = ap (λ s. p s d.box) (sym h.own.place) ∙ ap (p o.spot) x

    part_ends : (c k : Bool) → c ≡ k → (ls : List Leaf) (ys : List Seen) → ys ≡ map seen_of ls → Leads g (after_part g (n & test k) around (with_leaves o ls)) (cond c (Some (part_close g d ys)) None)
    part_ends true k e ls ys f = part_leads g (n & test k) d (counts_test n d h.tally k (sym e)) around (with_leaves o ls) d.entries d.number d.horizon (d.seen ++ ys) d.before h.frames (own_also g d.number d.horizon o d.seen d.before ls ys h.own f)
    part_ends false k e ls ys f = inl (part_flag g (n & test k) around (with_leaves o ls) ∙ failed n k (sym e))

    own_none : with_leaves o [] ≡ o
    own_none = ap (λ ls. let p : Own = record { spot = o.spot; before = o.before; leaves = ls } in p) (append-nil o.leaves)

    part_next : (c r : Bool) → goes_on g d.number d.box ≡ c → space_left d ≡ r →
        Leads g (at_end g n around o box Next) (cond (c && r) (Some (record d { entries = next_entry d.seen d.before d.horizon ∷ d.entries; number = d.number + 1; awaited = node_awaited })) None)
    part_next false r e f = inl (failed n (goes_on g o.spot.number box) (sym (same_test (goes_on g)) ∙ e))
    part_next true false e f = inr (too_deep (nests_within around) (length d.entries) (within_count g around d.entries d.number h.frames) f)
    part_next true true e f =
        let t = counts_test n d h.tally (goes_on g o.spot.number box) (sym (same_test (goes_on g)) ∙ e) in (
          refl,
          x,
          record {
            tally = record { in_place = t.in_place; turns = t.turns; opens = t.opens };
            frames = (d.seen, d.before, d.horizon, d.entries, d.number, refl, add-one d.number, h.own, h.frames);
            place = place_next g o.spot d.number d.horizon h.own.inside h.own.place;
          },
        )

    part_branch : (y : VarId) (c r : Bool) → may_branch g d.number y.0 d.box ≡ c → space_left d ≡ r →
        Leads g (at_end g n around o box (Branch y)) (cond (c && r) (Some (record d { entries = branch_entry (fork_on y.0 d.box) ∷ d.entries; awaited = case_awaited })) None)
    part_branch y false r e f = inl (failed n (may_branch g o.spot.number y.0 box) (sym (same_test (λ i b. may_branch g i y.0 b)) ∙ e))
    part_branch y true false e f = inr (too_deep (nests_within around) (length d.entries) (within_count g around d.entries d.number h.frames) f)
    part_branch y true true e f =
        let t = counts_test n d h.tally (may_branch g o.spot.number y.0 box) (sym (same_test (λ i b. may_branch g i y.0 b)) ∙ e) in (
          refl,
          record {
            tally = record { in_place = t.in_place; turns = t.turns; opens = t.opens };
            more = d.entries;
            first = ap (λ b. branch_entry (fork_on y.0 b) ∷ d.entries) x;
            frames = h.frames;
            own = h.own;
          },
        )

    marks_same : (step : Step) → marks_of g (spot_on g d) step d.box ≡ map seen_of (marks g o.spot.later o.spot.number o.spot.demands (step ∷ []) box)
    marks_same step =
        ap (λ s. marks_of g s step d.box) (sym h.own.place)
        ∙ (ap (marks_of g o.spot step) x ∙ map_both (step_marks (tracked_variable g o.spot.later o.spot.number (list_after g o.spot.later o.spot.demands)) (step ∷ []) box))

    part_step : (step : Step) (a : Bool) → is_own_step g (spot_on g d) step d.box ≡ a →
        Leads g (after_step_line g n around o step box) (cond a (Some (record d { box = after_step step d.box; seen = d.seen ++ marks_of g (spot_on g d) step d.box; awaited = part_awaited })) None)
    part_step step false e = inl (failed n (is_own_step g o.spot step box) (sym (spot_test (λ s b. is_own_step g s step b)) ∙ e))
    part_step step true e =
        let t = counts_test n d h.tally (is_own_step g o.spot step box) (sym (spot_test (λ s b. is_own_step g s step b)) ∙ e) in
        let own = own_also g d.number d.horizon o d.seen d.before (marks g o.spot.later o.spot.number o.spot.demands (step ∷ []) box) (marks_of g (spot_on g d) step d.box) h.own (marks_same step) in
        (refl, ap (after_step step) x, record { tally = record { in_place = t.in_place; turns = t.turns; opens = t.opens }; frames = h.frames; own = own })

    end_leads : (l : Line) → Leads g (at_end g n around o box l) (ledger_end g d l)
    end_leads (Prune y low high c) = part_step (PruneStep y low high c) (is_own_step g (spot_on g d) (PruneStep y low high c) d.box) refl
    end_leads (Bound y low high) = part_step (BoundStep y low high) (is_own_step g (spot_on g d) (BoundStep y low high) d.box) refl
    end_leads Empty = subst (λ p. Leads g (after_part g (n & test (has_empty box)) around p) (ledger_end g d Empty)) own_none (part_ends (has_empty d.box) (has_empty box) (ap has_empty x) [] [] refl)
    end_leads Barred = part_ends (bars g d.number d.box) (bars g o.spot.number box) (same_test (bars g)) (leaf_barred ∷ []) (seen_barred ∷ []) refl
    end_leads Next = part_next (goes_on g d.number d.box) (space_left d) refl refl
    end_leads (Branch y) = part_branch y (may_branch g d.number y.0 d.box) (space_left d) refl refl
    end_leads (Horizon k) = inl refl
    end_leads Dot = inl refl
    end_leads Stuck = inl refl
    end_leads Goal = inl refl
    end_leads Skip = inl refl
    end_leads Open = inl refl
    end_leads (Range high) = inl refl

  module _ (n : Tally) (above : Above) (s : Spot) (box : Box) (d : Ledger) (x : d.box ≡ box) (h : NodeIs g n above s d) where
    last_is : no_scope_left g d ≡ is_goal s.later
    last_is = sym (goal_at g.scopes d.number) ∙ sym (ap (λ (s : Spot). is_goal s.later) h.place)

    horizon_is : sees_horizon d ≡ is_horizon s.horizon s.number
    horizon_is = sym (ap (λ (s : Spot). is_horizon s.horizon s.number) h.place)

    node_ends : (c k : Bool) → c ≡ k → (f : Finding) (v : Verdict) → v ≡ f.verdict → f.own ≡ None → Leads g (after_node g (n & test k) above f) (cond c (Some (node_close g d v)) None)
    node_ends true k e f v comes none = node_leads g (n & test k) d (counts_test n d h.tally k (sym e)) above f d.entries d.number d.horizon v h.frames comes none
    node_ends false k e f v comes none = inl (node_flag g (n & test k) above f ∙ failed n k (sym e))

    goal_comes : goal_verdict g (allows g d.number (position g d.number d.box)) (demands g d.number) (position g d.number d.box) ≡ (goal_finding g s.number s.demands (position g s.number box)).verdict
    goal_comes =
        ap (λ b. (goal_finding g d.number (demands g d.number) (position g d.number b)).verdict) x
        ∙ sym (ap (λ (s : Spot). (goal_finding g s.number s.demands (position g s.number box)).verdict) h.place)

    stuck_is : stuck_of (drop d.number g.scopes) g (demands g d.number) (position g d.number d.box) ≡ (stuck_finding s.later g s.demands (position g s.number box)).verdict
    stuck_is =
        stuck_comes g (drop d.number g.scopes) (demands g d.number) (position g d.number d.box)
        ∙ (ap (λ b. (stuck_finding (drop d.number g.scopes) g (demands g d.number) (position g d.number b)).verdict) x
        ∙ sym (ap (λ (s : Spot). (stuck_finding s.later g s.demands (position g s.number box)).verdict) h.place))

    enter_same : may_begin g d ≡ (not (is_horizon s.horizon s.number) && not (is_goal s.later))
    enter_same = ap (λ b. not b && not (no_scope_left g d)) horizon_is ∙ ap (λ b. not (is_horizon s.horizon s.number) && not b) last_is

    before_is : position g d.number d.box ≡ position g s.number box
    before_is = ap (position g d.number) x ∙ sym (ap (λ (s : Spot). position g s.number box) h.place)

    own_line : (l : Line) (c : Bool) → may_begin g d ≡ c →
        Leads g (at_end g (n & test (not (is_horizon s.horizon s.number) && not (is_goal s.later))) (whole_tree above) (own_at g s box) box l) (cond c (ledger_end g (begun g d) l) None)
    own_line l false e = inl (end_off g l (n & test (not (is_horizon s.horizon s.number) && not (is_goal s.later))) (whole_tree above) (own_at g s box) box (failed n (not (is_horizon s.horizon s.number) && not (is_goal s.later)) (sym enter_same ∙ e)))
    own_line l true e =
        let k = not (is_horizon s.horizon s.number) && not (is_goal s.later) in
        let t = counts_test n d h.tally k (sym enter_same ∙ e) in
        end_leads (n & test k) (whole_tree above) (own_at g s box) box (begun g d) x
        record {
          tally = record { in_place = t.in_place; turns = t.turns; opens = t.opens };
          frames = h.frames;
          own = record { place = h.place; inside = more (length g.scopes) d.number (and_parts (not (sees_horizon d)) (not (no_scope_left g d)) e).1; values = before_is; all = refl };
        } l
      where
        not_true : (b : Bool) → not b ≡ true → b ≡ false
        not_true true e = cc
        not_true false e = refl

        more : (m n : ℕ) → not (nat_le m n) ≡ true → n < m
        more m n e = let f = not_true (nat_le m n) e in grind (arith, nat_tests)

    body_leads : (l : Line) → Leads g (at_body g n above s box l) (ledger_body g d l)
    body_leads Stuck = node_ends (sees_horizon d) (is_horizon s.horizon s.number) horizon_is _ (stuck_of (drop d.number g.scopes) g (demands g d.number) (position g d.number d.box)) stuck_is (stuck_owns g s.later s.demands (position g s.number box))
    body_leads Goal = node_ends (not (sees_horizon d) && no_scope_left g d) (not (is_horizon s.horizon s.number) && is_goal s.later)
        (ap (λ b. not b && no_scope_left g d) horizon_is ∙ ap (λ b. not (is_horizon s.horizon s.number) && b) last_is) _
        (goal_verdict g (allows g d.number (position g d.number d.box)) (demands g d.number) (position g d.number d.box)) goal_comes refl
    body_leads (Prune y low high c) = own_line (Prune y low high c) (may_begin g d) refl
    body_leads (Bound y low high) = own_line (Bound y low high) (may_begin g d) refl
    body_leads Empty = own_line Empty (may_begin g d) refl
    body_leads Barred = own_line Barred (may_begin g d) refl
    body_leads Next = own_line Next (may_begin g d) refl
    body_leads (Branch y) = own_line (Branch y) (may_begin g d) refl
    body_leads (Horizon k) = own_line (Horizon k) (may_begin g d) refl
    body_leads Dot = own_line Dot (may_begin g d) refl
    body_leads Skip = own_line Skip (may_begin g d) refl
    body_leads Open = own_line Open (may_begin g d) refl
    body_leads (Range high) = own_line (Range high) (may_begin g d) refl

    see_same : (k : ℕ) → may_see k (spot_on g d) ≡ may_see k s
    see_same k = sym (ap (may_see k) h.place)

    node_sees : (k : ℕ) (a : Bool) → may_see k (spot_on g d) ≡ a → Leads g (at_node g n above s box (Horizon (suc k))) (cond a (Some (record d { awaited = prune_awaited k d.box })) None)
    node_sees k false e = inl (failed n (may_see k s) (sym (see_same k) ∙ e))
    node_sees k true e =
        let t = counts_test n d h.tally (may_see k s) (sym (see_same k) ∙ e) in
        (ap (prune_awaited k) x, x, record { tally = record { in_place = t.in_place; turns = t.turns; opens = t.opens }; frames = h.frames; place = h.place })

    node_goes : (l : Line) → Leads g (at_node g n above s box l) (ledger_node g d l)
    node_goes (Horizon zero) = inl refl
    node_goes (Horizon (suc k)) = node_sees k (may_see k (spot_on g d)) refl
    node_goes Stuck = body_leads Stuck
    node_goes Goal = body_leads Goal
    node_goes (Prune y low high c) = body_leads (Prune y low high c)
    node_goes (Bound y low high) = body_leads (Bound y low high)
    node_goes Empty = body_leads Empty
    node_goes Barred = body_leads Barred
    node_goes Next = body_leads Next
    node_goes (Branch y) = body_leads (Branch y)
    node_goes Dot = body_leads Dot
    node_goes Skip = body_leads Skip
    node_goes Open = body_leads Open
    node_goes (Range high) = body_leads (Range high)

  module _ (n : Tally) (above : Above) (s : Spot) (k : ℕ) (box left : Box) (d : Ledger) (x : d.box ≡ left) (h : NodeIs g n above s d) where
    legal_same : (step : Step) → is_legal g d.number (suc k) None step d.box ≡ is_legal g s.number (suc k) None step left
    legal_same step = ap (is_legal g d.number (suc k) None step) x ∙ sym (ap (λ (s : Spot). is_legal g s.number (suc k) None step left) h.place)

    seen_pruned : (step : Step) (a : Bool) → is_legal g d.number (suc k) None step d.box ≡ a →
        Leads g (after_prune_line g n above s k box step left) (cond a (Some (record d { box = after_step step d.box; awaited = prune_awaited k box })) None)
    seen_pruned step false e = inl (failed n (is_legal g s.number (suc k) None step left) (sym (legal_same step) ∙ e))
    seen_pruned step true e =
        let t = counts_test n d h.tally (is_legal g s.number (suc k) None step left) (sym (legal_same step) ∙ e) in
        (refl, ap (after_step step) x, record { tally = record { in_place = t.in_place; turns = t.turns; opens = t.opens }; frames = h.frames; place = h.place })

    seen_dot : (a : Bool) → has_empty d.box ≡ a → Leads g (at_prune g n above s k box left Dot) (cond a (Some (record d { box = box; horizon = Some k; awaited = body_awaited })) None)
    seen_dot false e = inl (failed n (has_empty left) (sym (ap has_empty x) ∙ e))
    seen_dot true e =
        let t = counts_test n d h.tally (has_empty left) (sym (ap has_empty x) ∙ e) in
        (refl, refl, record { tally = record { in_place = t.in_place; turns = t.turns; opens = t.opens }; frames = h.frames; place = ap (λ s. with_horizon s k) h.place })

    prune_leads : (l : Line) → Leads g (at_prune g n above s k box left l) (ledger_prune g d k box l)
    prune_leads (Prune y low high c) = seen_pruned (PruneStep y low high c) (is_legal g d.number (suc k) None (PruneStep y low high c) d.box) refl
    prune_leads (Bound y low high) = seen_pruned (BoundStep y low high) (is_legal g d.number (suc k) None (BoundStep y low high) d.box) refl
    prune_leads Dot = seen_dot (has_empty d.box) refl
    prune_leads (Horizon j) = inl refl
    prune_leads Stuck = inl refl
    prune_leads Goal = inl refl
    prune_leads Empty = inl refl
    prune_leads Barred = inl refl
    prune_leads Next = inl refl
    prune_leads (Branch y) = inl refl
    prune_leads Skip = inl refl
    prune_leads Open = inl refl
    prune_leads (Range high) = inl refl

  module _ (n : Tally) (around : Within) (o : Own) (b : Fork) (d : Ledger) (h : CaseIs g n around o b d) where
    skip_own : IsOwnOf g d.number d.horizon (with_leaf o leaf_skipped) (d.seen ++ seen_skipped ∷ []) d.before
    skip_own = own_also g d.number d.horizon o d.seen d.before (leaf_skipped ∷ []) (seen_skipped ∷ []) h.own refl

    skip_leads : (upto : Option ℤ) (c : Bool) → is_cover upto b.left ≡ c → Leads g (at_case g n around o b upto Skip) (cond c (Some (passed_over d b h.more upto false)) None)
    skip_leads upto false e = inl (failed n (is_cover upto b.left) e)
    skip_leads upto true e =
        let t = counts_test n d h.tally (is_cover upto b.left) e in
        (refl, record { tally = record { in_place = t.in_place; turns = t.turns; opens = or_false d.has_open ∙ t.opens }; more = h.more; first = refl; frames = h.frames; own = skip_own })

    open_leads : (upto : Option ℤ) (c : Bool) → is_cover upto b.left ≡ c → Leads g (at_case g n around o b upto Open) (cond c (Some (passed_over d b h.more upto true)) None)
    open_leads upto false e = inl (failed n (is_cover upto b.left) e)
    open_leads upto true e =
        let t = counts_test n d h.tally (is_cover upto b.left) e in
        (refl, record { tally = record { in_place = t.in_place; turns = t.turns; opens = or_true d.has_open ∙ some_open n.opens }; more = h.more; first = refl; frames = h.frames; own = skip_own })

    case_line : (upto : Option ℤ) (l : Line) (c : Bool) → may_take upto b ≡ c →
        Leads g (at_end g (n & taken (may_take upto b)) (in_case (fork_after upto b) around) o (box_to b.box b.variable (covered upto b.left)) l) (cond c (ledger_end g (gone_into d b h.more upto) l) None)
    case_line upto l false e = inl (end_off g l (n & taken (may_take upto b)) (in_case (fork_after upto b) around) o (box_to b.box b.variable (covered upto b.left)) (failed n (may_take upto b) e))
    case_line upto l true e =
        end_leads (n & taken (may_take upto b)) (in_case (fork_after upto b) around) o (box_to b.box b.variable (covered upto b.left)) (gone_into d b h.more upto) refl
        record {
          tally = record {
            in_place = still_in_place n d h.tally (may_take upto b) e;
            turns = ap one_more h.tally.turns ∙ one_later n.turns;
            opens = let z : n.opens ≡ n.opens + 0 = omega arith in h.tally.opens ∙ ap (nat_lt 0) z;
          };
          frames = (h.more, refl, h.frames);
          own = h.own;
        } l

    taken_leads : (upto : Option ℤ) (l : Line) → Leads g (at_end g (n & taken (may_take upto b)) (in_case (fork_after upto b) around) o (box_to b.box b.variable (covered upto b.left)) l) (cond (may_take upto b) (ledger_end g (gone_into d b h.more upto) l) None)
    taken_leads upto l = case_line upto l (may_take upto b) refl

    case_leads : (upto : Option ℤ) (l : Line) → Leads g (at_case g n around o b upto l) (ledger_case g d b h.more upto l)
    case_leads upto Skip = skip_leads upto (is_cover upto b.left) refl
    case_leads upto Open = open_leads upto (is_cover upto b.left) refl
    case_leads upto (Prune y low high c) = taken_leads upto (Prune y low high c)
    case_leads upto (Bound y low high) = taken_leads upto (Bound y low high)
    case_leads upto Empty = taken_leads upto Empty
    case_leads upto Barred = taken_leads upto Barred
    case_leads upto Next = taken_leads upto Next
    case_leads upto (Branch y) = taken_leads upto (Branch y)
    case_leads upto (Horizon k) = taken_leads upto (Horizon k)
    case_leads upto Dot = taken_leads upto Dot
    case_leads upto Stuck = taken_leads upto Stuck
    case_leads upto Goal = taken_leads upto Goal
    case_leads upto (Range high) = taken_leads upto (Range high)

    own_still : IsOwnOf g d.number d.horizon o (d.seen ++ []) d.before
    own_still = record { place = h.own.place; inside = h.own.inside; values = h.own.values; all = append-nil d.seen ∙ h.own.all }

    dot_leads : (c : Bool) → is_none_left b.left ≡ c → Leads g (at_fork g n around o b Dot) (cond c (Some (part_close g (record d { entries = h.more }) [])) None)
    dot_leads false e = inl (part_flag g (n & test (is_none_left b.left)) around o ∙ failed n (is_none_left b.left) e)
    dot_leads true e =
        let t = counts_test n d h.tally (is_none_left b.left) e in
        part_leads g (n & test (is_none_left b.left)) (record d { entries = h.more }) (record { in_place = t.in_place; turns = t.turns; opens = t.opens }) around o h.more d.number d.horizon (d.seen ++ []) d.before h.frames own_still

    fork_leads : (l : Line) → Leads g (at_fork g n around o b l) (ledger_fork g d b h.more l)
    fork_leads Dot = dot_leads (is_none_left b.left) refl
    fork_leads (Range high) = let t = h.tally in (refl, record { tally = record { in_place = t.in_place; turns = t.turns; opens = t.opens }; more = h.more; first = h.first; frames = h.frames; own = h.own })
    fork_leads Skip = case_leads None Skip
    fork_leads Open = case_leads None Open
    fork_leads (Prune y low high c) = case_leads None (Prune y low high c)
    fork_leads (Bound y low high) = case_leads None (Bound y low high)
    fork_leads Empty = case_leads None Empty
    fork_leads Barred = case_leads None Barred
    fork_leads Next = case_leads None Next
    fork_leads (Branch y) = case_leads None (Branch y)
    fork_leads (Horizon k) = case_leads None (Horizon k)
    fork_leads Stuck = case_leads None Stuck
    fork_leads Goal = case_leads None Goal

  fork_turn : (s : State) (fs : List Entry) (b : Fork) (more : List Entry) (f : Fork → List Entry → Option Ledger) → fs ≡ branch_entry b ∷ more → Leads g s (f b more) → Leads g s (at_entry fs f)
  fork_turn s fs b more f e h = subst (λ gs. Leads g s (at_entry gs f)) (sym e) h

  due_turn : (s : State) (d : Ledger) (l : Line) (u : Awaited) → d.awaited ≡ u → Leads g s (goes_at g d u l) → Leads g s (goes g (Some d) l)
  due_turn s d l u e h = subst (λ v. Leads g s (goes_at g d v l)) (sym e) h

  pub goes_leads : (s : State) (d : Ledger) (l : Line) → Tells g s d → Leads g (step g s l) (goes g (Some d) l)
  goes_leads (node_due n above s box) d l h = due_turn (step g (node_due n above s box) l) d l node_awaited h.0 (node_goes n above s box d h.1 h.2 l)
  goes_leads (prune_due n above s k box left) d l h = due_turn (step g (prune_due n above s k box left) l) d l (prune_awaited k box) h.0 (prune_leads n above s k box left d h.1 h.2 l)
  goes_leads (body_due n above s box) d l h = due_turn (step g (body_due n above s box) l) d l body_awaited h.0 (body_leads n above s box d h.1 h.2 l)
  goes_leads (end_due n around o box) d l h = due_turn (step g (end_due n around o box) l) d l part_awaited h.0 (end_leads n around o box d h.1 h.2 l)
  goes_leads (case_due n around o b) d l h = due_turn (step g (case_due n around o b) l) d l case_awaited h.0 (fork_turn (step g (case_due n around o b) l) d.entries b h.1.more (λ b fs. ledger_fork g d b fs l) h.1.first (fork_leads n around o b d h.1 l))
  goes_leads (ranged_due n around o b high) d l h = due_turn (step g (ranged_due n around o b high) l) d l (ranged_awaited high) h.0 (fork_turn (step g (ranged_due n around o b high) l) d.entries b h.1.more (λ b fs. ledger_case g d b fs (Some high) l) h.1.first (case_leads n around o b d h.1 (Some high) l))
  goes_leads (ended n f) d l h = due_turn wrong d l none_awaited h.0 (inl refl)
  goes_leads wrong d l h = absurd h
