-- What follows a node is told by one ledger alone.
use Rattle.std.proofs.Common.{◌≡◌, ℕ, zero, suc, ◌-◌, Bool, true, false, cond, List, [], ◌∷◌, ◌++◌, refl, sym, ap, ◌∙◌, subst, Option, Some, None, ℤ}
use Rattle.qc_model.specs.Content.{Game}
use Rattle.qc_model.specs.Domains.{Box}
use Rattle.qc_model.specs.Verdict.{Verdict, Seen, seen_barred, seen_node}
use Rattle.joins.specs.Verdicts.{verdict_at}
use Rattle.proof_tree.specs.Finding.{Finding, leaf_node}
use Rattle.proof_tree.specs.declared.line.Line.{Line}
use Rattle.proof_tree.specs.declared.line.Line.TheVariants.{Horizon, Prune, Bound, Dot, Stuck, Goal, Empty, Barred, Next, Branch, Skip, Open, Range}
use Rattle.check_lines.specs.Tally.{Tally}
use Rattle.check_lines.specs.State.{Spot, Own, Fork, Above, at_root, below, Within, whole_tree, in_case, with_leaf, finding_of, after_node, after_part, may_take}
use Rattle.check_lines.specs.Awaited.{Awaited, node_awaited, prune_awaited, body_awaited, part_awaited, case_awaited, ranged_awaited, none_awaited}
use Rattle.check_lines.specs.Ledger.{Ledger, Entry, next_entry, branch_entry, only_ledger, part_closed, part_close, node_closed, node_close, ledger_end, may_begin, begun, begins, ledger_body, ledger_node, ledger_prune, passed_over, gone_into, ledger_case, ledger_fork, at_entry, goes_at, goes}
use Rattle.check_lines.specs.LedgerHeld.{IsOwnOf, AboveIs, WithinIs, Tells, goes_through}
use Rattle.check_lines.specs.Passing.{IsSame}

-- a branch that is open is first, with this box
abbrev IsFirst : Box → List Entry → Type 0
IsFirst box [] = ⊥
IsFirst box (next_entry xs a h ∷ fs) = ⊥
IsFirst box (branch_entry b ∷ fs) = box ≡ b.box

abbrev IsTidyAt : Box → List Entry → Awaited → Type 0
IsTidyAt box fs node_awaited = Unit {0}
IsTidyAt box fs (prune_awaited k node) = Unit {0}
IsTidyAt box fs body_awaited = Unit {0}
IsTidyAt box fs part_awaited = Unit {0}
IsTidyAt box fs case_awaited = IsFirst box fs
IsTidyAt box fs (ranged_awaited high) = IsFirst box fs
IsTidyAt box fs none_awaited = fs ≡ []

-- where a case is due, the box is that of the branch; at the end nothing is open
abbrev pub IsTidy : Ledger → Type 0
IsTidy d = IsTidyAt d.box d.entries d.awaited

-- where there is one
abbrev pub AllTidy : Option Ledger → Type 0
AllTidy None = Unit {0}
AllTidy (Some d) = IsTidy d

-- nothing is asked where a node is due
pub node_is_tidy : (d : Ledger) → d.awaited ≡ node_awaited → IsTidy d
node_is_tidy d e = subst (IsTidyAt d.box d.entries) (sym e) tt

module _ (g : Game) where
  part_tidy : (d : Ledger) (fs : List Entry) (i : ℕ) (h : Option ℕ) (xs : List Seen) (a : List ℤ) → IsTidy (part_closed g d fs i h xs a)
  part_tidy d [] i h xs a = refl
  part_tidy d (branch_entry b ∷ fs) i h xs a = refl
  part_tidy d (next_entry up above z ∷ fs) i h xs a = part_tidy d fs (i - 1) z (up ++ seen_node (verdict_at g i a xs) ∷ []) above

  -- once a node has come to its end
  pub node_tidy : (d : Ledger) (fs : List Entry) (i : ℕ) (h : Option ℕ) (v : Verdict) → IsTidy (node_closed g d fs i h v)
  node_tidy d [] i h v = refl
  node_tidy d (branch_entry b ∷ fs) i h v = refl
  node_tidy d (next_entry up above z ∷ fs) i h v = part_tidy d fs (i - 1) z (up ++ seen_node v ∷ []) above

  only_tidy : (c : Bool) (d : Ledger) → IsTidy d → AllTidy (only_ledger c d)
  only_tidy true d h = h
  only_tidy false d h = tt

  may_tidy : (c : Bool) (p : Option Ledger) → AllTidy p → AllTidy (cond c p None)
  may_tidy true p h = h
  may_tidy false p h = tt

  ends_tidy : (c : Bool) (d : Ledger) (xs : List Seen) → AllTidy (only_ledger c (part_close g d xs))
  ends_tidy c d xs = only_tidy c (part_close g d xs) (part_tidy d d.entries d.number d.horizon (d.seen ++ xs) d.before)

  closes_tidy : (c : Bool) (d : Ledger) (v : Verdict) → AllTidy (only_ledger c (node_close g d v))
  closes_tidy c d v = only_tidy c (node_close g d v) (node_tidy d d.entries d.number d.horizon v)

  end_tidy : (d : Ledger) (l : Line) → AllTidy (ledger_end g d l)
  end_tidy d (Prune x low high c) = only_tidy _ _ tt
  end_tidy d (Bound x low high) = only_tidy _ _ tt
  end_tidy d Empty = ends_tidy _ d []
  end_tidy d Barred = ends_tidy _ d (seen_barred ∷ [])
  end_tidy d Next = only_tidy _ _ tt
  end_tidy d (Branch x) = only_tidy _ _ refl
  end_tidy d (Horizon k) = tt
  end_tidy d Dot = tt
  end_tidy d Stuck = tt
  end_tidy d Goal = tt
  end_tidy d Skip = tt
  end_tidy d Open = tt
  end_tidy d (Range high) = tt

  begins_tidy : (d : Ledger) (l : Line) → AllTidy (begins g d l)
  begins_tidy d l = may_tidy (may_begin g d) (ledger_end g (begun g d) l) (end_tidy (begun g d) l)

  body_tidy : (d : Ledger) (l : Line) → AllTidy (ledger_body g d l)
  body_tidy d Stuck = closes_tidy _ d _
  body_tidy d Goal = closes_tidy _ d _
  body_tidy d (Prune x low high c) = begins_tidy d (Prune x low high c)
  body_tidy d (Bound x low high) = begins_tidy d (Bound x low high)
  body_tidy d Empty = begins_tidy d Empty
  body_tidy d Barred = begins_tidy d Barred
  body_tidy d Next = begins_tidy d Next
  body_tidy d (Branch x) = begins_tidy d (Branch x)
  body_tidy d (Horizon k) = begins_tidy d (Horizon k)
  body_tidy d Dot = begins_tidy d Dot
  body_tidy d Skip = begins_tidy d Skip
  body_tidy d Open = begins_tidy d Open
  body_tidy d (Range high) = begins_tidy d (Range high)

  start_tidy : (d : Ledger) (l : Line) → AllTidy (ledger_node g d l)
  start_tidy d (Horizon zero) = tt
  start_tidy d (Horizon (suc k)) = only_tidy _ _ tt
  start_tidy d Stuck = body_tidy d Stuck
  start_tidy d Goal = body_tidy d Goal
  start_tidy d (Prune x low high c) = body_tidy d (Prune x low high c)
  start_tidy d (Bound x low high) = body_tidy d (Bound x low high)
  start_tidy d Empty = body_tidy d Empty
  start_tidy d Barred = body_tidy d Barred
  start_tidy d Next = body_tidy d Next
  start_tidy d (Branch x) = body_tidy d (Branch x)
  start_tidy d Dot = body_tidy d Dot
  start_tidy d Skip = body_tidy d Skip
  start_tidy d Open = body_tidy d Open
  start_tidy d (Range high) = body_tidy d (Range high)

  prune_tidy : (d : Ledger) (k : ℕ) (box : Box) (l : Line) → AllTidy (ledger_prune g d k box l)
  prune_tidy d k box (Prune x low high c) = only_tidy _ _ tt
  prune_tidy d k box (Bound x low high) = only_tidy _ _ tt
  prune_tidy d k box Dot = only_tidy _ _ tt
  prune_tidy d k box (Horizon j) = tt
  prune_tidy d k box Stuck = tt
  prune_tidy d k box Goal = tt
  prune_tidy d k box Empty = tt
  prune_tidy d k box Barred = tt
  prune_tidy d k box Next = tt
  prune_tidy d k box (Branch x) = tt
  prune_tidy d k box Skip = tt
  prune_tidy d k box Open = tt
  prune_tidy d k box (Range high) = tt

  module _ (d : Ledger) (b : Fork) (fs : List Entry) (e : d.entries ≡ branch_entry b ∷ fs) (x : d.box ≡ b.box) where
    taken_tidy : (upto : Option ℤ) (l : Line) → AllTidy (cond (may_take upto b) (ledger_end g (gone_into d b fs upto) l) None)
    taken_tidy upto l = may_tidy (may_take upto b) (ledger_end g (gone_into d b fs upto) l) (end_tidy (gone_into d b fs upto) l)

    case_tidy : (upto : Option ℤ) (l : Line) → AllTidy (ledger_case g d b fs upto l)
    case_tidy upto Skip = only_tidy _ (passed_over d b fs upto false) x
    case_tidy upto Open = only_tidy _ (passed_over d b fs upto true) x
    case_tidy upto (Prune y low high c) = taken_tidy upto (Prune y low high c)
    case_tidy upto (Bound y low high) = taken_tidy upto (Bound y low high)
    case_tidy upto Empty = taken_tidy upto Empty
    case_tidy upto Barred = taken_tidy upto Barred
    case_tidy upto Next = taken_tidy upto Next
    case_tidy upto (Branch y) = taken_tidy upto (Branch y)
    case_tidy upto (Horizon k) = taken_tidy upto (Horizon k)
    case_tidy upto Dot = taken_tidy upto Dot
    case_tidy upto Stuck = taken_tidy upto Stuck
    case_tidy upto Goal = taken_tidy upto Goal
    case_tidy upto (Range high) = taken_tidy upto (Range high)

    fork_tidy : (l : Line) → AllTidy (ledger_fork g d b fs l)
    fork_tidy Dot = ends_tidy _ (record d { entries = fs }) []
    fork_tidy (Range high) = subst (IsFirst d.box) (sym e) x
    fork_tidy Skip = case_tidy None Skip
    fork_tidy Open = case_tidy None Open
    fork_tidy (Prune y low high c) = case_tidy None (Prune y low high c)
    fork_tidy (Bound y low high) = case_tidy None (Bound y low high)
    fork_tidy Empty = case_tidy None Empty
    fork_tidy Barred = case_tidy None Barred
    fork_tidy Next = case_tidy None Next
    fork_tidy (Branch y) = case_tidy None (Branch y)
    fork_tidy (Horizon k) = case_tidy None (Horizon k)
    fork_tidy Stuck = case_tidy None Stuck
    fork_tidy Goal = case_tidy None Goal

  entry_tidy : (d : Ledger) (f : Fork → List Entry → Option Ledger) → ((b : Fork) (fs : List Entry) → d.entries ≡ branch_entry b ∷ fs → d.box ≡ b.box → AllTidy (f b fs)) → (es : List Entry) → d.entries ≡ es → IsFirst d.box es → AllTidy (at_entry es f)
  entry_tidy d f each [] e h = absurd h
  entry_tidy d f each (next_entry xs a z ∷ fs) e h = absurd h
  entry_tidy d f each (branch_entry b ∷ fs) e h = each b fs e h

  awaited_tidy : (d : Ledger) (l : Line) (u : Awaited) → IsTidyAt d.box d.entries u → AllTidy (goes_at g d u l)
  awaited_tidy d l node_awaited h = start_tidy d l
  awaited_tidy d l (prune_awaited k box) h = prune_tidy d k box l
  awaited_tidy d l body_awaited h = body_tidy d l
  awaited_tidy d l part_awaited h = end_tidy d l
  awaited_tidy d l case_awaited h = entry_tidy d (λ b fs. ledger_fork g d b fs l) (λ b fs e x. fork_tidy d b fs e x l) d.entries refl h
  awaited_tidy d l (ranged_awaited high) h = entry_tidy d (λ b fs. ledger_case g d b fs (Some high) l) (λ b fs e x. case_tidy d b fs e x (Some high) l) d.entries refl h
  awaited_tidy d l none_awaited h = tt

  goes_tidy : (p : Option Ledger) (l : Line) → AllTidy p → AllTidy (goes g p l)
  goes_tidy None l h = tt
  goes_tidy (Some d) l h = awaited_tidy d l d.awaited h

  -- and after any lines
  pub stays_tidy : (ls : List Line) (p : Option Ledger) → AllTidy p → AllTidy (goes_through g p ls)
  stays_tidy [] p h = h
  stays_tidy (l ∷ ls) p h = stays_tidy ls (goes g p l) (goes_tidy p l h)

  -- a scope's own tree has one number, one horizon, and was read in one way
  module _ (o : Own) (i j : ℕ) (h k : Option ℕ) (xs ys : List Seen) (a b : List ℤ) (p : IsOwnOf g i h o xs a) (q : IsOwnOf g j k o ys b) where
    one_number : i ≡ j
    one_number = ap (λ (s : Spot). s.number) (sym p.place ∙ q.place)

    one_horizon : h ≡ k
    one_horizon = ap (λ (s : Spot). s.horizon) (sym p.place ∙ q.place)

    one_seen : xs ≡ ys
    one_seen = p.all ∙ sym q.all

    one_before : a ≡ b
    one_before = p.values ∙ sym q.values

  next_same : (xs ys : List Seen) (a b : List ℤ) (h k : Option ℕ) (es fs : List Entry) → xs ≡ ys → a ≡ b → h ≡ k → es ≡ fs → ◌≡◌ {A = List Entry} (next_entry xs a h ∷ es) (next_entry ys b k ∷ fs)
  next_same xs ys a b h k es fs p q r s = cc

  mutual
    one_above : (above : Above) (es fs : List Entry) (i j : ℕ) → AboveIs g above es i → AboveIs g above fs j → es ≡ fs
    one_above at_root es fs i j p q = p ∙ sym q
    one_above (below o w around) es fs i j p q =
        p.5
        ∙ (next_same p.0 q.0 p.1 q.1 p.2 q.2 p.3 q.3
        (one_seen o p.4 q.4 p.2 q.2 p.0 q.0 p.1 q.1 p.7 q.7)
        (one_before o p.4 q.4 p.2 q.2 p.0 q.0 p.1 q.1 p.7 q.7)
        (one_horizon o p.4 q.4 p.2 q.2 p.0 q.0 p.1 q.1 p.7 q.7)
        (one_within around p.3 q.3 p.4 q.4 p.8 q.8)
        ∙ sym q.5)

    one_within : (around : Within) (es fs : List Entry) (i j : ℕ) → WithinIs g around es i → WithinIs g around fs j → es ≡ fs
    one_within (whole_tree above) es fs i j p q = one_above above es fs i j p q
    one_within (in_case b around) es fs i j p q = p.1 ∙ (ap (λ more. branch_entry b ∷ more) (one_within around p.0 q.0 i j p.2 q.2) ∙ sym q.1)

  none_open : (d : Ledger) → d.awaited ≡ none_awaited → IsTidy d → d.entries ≡ []
  none_open d e h = subst (IsTidyAt d.box d.entries) e h

  fork_box : (d : Ledger) (b : Fork) (more : List Entry) → d.awaited ≡ case_awaited → d.entries ≡ branch_entry b ∷ more → IsTidy d → d.box ≡ b.box
  fork_box d b more e f h =
      let first : IsFirst d.box d.entries = subst (IsTidyAt d.box d.entries) e h in
      subst (IsFirst d.box) f first

  mutual
    -- two ledgers that tell what follows a node say the same
    pub one_ledger : (above : Above) (n : Tally) (f : Finding) (d e : Ledger) → Tells g (after_node g n above f) d → Tells g (after_node g n above f) e → IsTidy d → IsTidy e → IsSame d e
    one_ledger at_root n f d e p q x y = record {
      box = λ w. absurd (w p.0);
      entries = none_open d p.0 x ∙ sym (none_open e q.0 y);
      awaited = p.0 ∙ sym q.0;
      number = λ w. absurd (w p.0);
      horizon = λ w. absurd (w p.0);
      seen = λ w. absurd (w p.0);
      before = λ w. absurd (w p.0);
      turns = p.1.tally.turns ∙ sym q.1.tally.turns;
      has_open = p.1.tally.opens ∙ sym q.1.tally.opens;
      ends = λ w. (p.1.verdict ∙ sym q.1.verdict, p.1.own ∙ sym q.1.own);
    }
    one_ledger (below o w around) n f d e p q x y = one_part around n (with_leaf o (leaf_node w f)) d e p q x y

    one_part : (around : Within) (n : Tally) (o : Own) (d e : Ledger) → Tells g (after_part g n around o) d → Tells g (after_part g n around o) e → IsTidy d → IsTidy e → IsSame d e
    one_part (whole_tree above) n o d e p q x y = one_ledger above n (finding_of g o) d e p q x y
    one_part (in_case b around) n o d e p q x y =
        let u = p.1 in
        let v = q.1 in
        record {
          box = λ w. fork_box d b u.more p.0 u.first x ∙ sym (fork_box e b v.more q.0 v.first y);
          entries = u.first ∙ (ap (λ more. branch_entry b ∷ more) (one_within around u.more v.more d.number e.number u.frames v.frames) ∙ sym v.first);
          awaited = p.0 ∙ sym q.0;
          number = λ w. one_number o d.number e.number d.horizon e.horizon d.seen e.seen d.before e.before u.own v.own;
          horizon = λ w. one_horizon o d.number e.number d.horizon e.horizon d.seen e.seen d.before e.before u.own v.own;
          seen = λ w. one_seen o d.number e.number d.horizon e.horizon d.seen e.seen d.before e.before u.own v.own;
          before = λ w. one_before o d.number e.number d.horizon e.horizon d.seen e.seen d.before e.before u.own v.own;
          turns = u.tally.turns ∙ sym v.tally.turns;
          has_open = u.tally.opens ∙ sym v.tally.opens;
          ends = λ w. let z : none_awaited ≡ case_awaited = sym w ∙ p.0 in cc;
        }
