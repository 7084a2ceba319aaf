-- How much is open in a ledger after each line.
use Rattle.std.proofs.Common.{◌≡◌, ◌≤◌, ℕ, zero, suc, ◌-◌, Bool, true, false, ◌&&◌, cond, List, [], ◌∷◌, ◌++◌, length, refl, arith, Option, Some, None, ℤ}
use Rattle.std.specs.Prelude.{nat_lt}
use Rattle.std.proofs.lemmas.Bool.Decides.{nat_tests}
use Rattle.qc_model.specs.Content.{Game}
use Rattle.qc_model.specs.Domains.{Box}
use Rattle.qc_model.specs.Verdict.{Verdict, Seen, seen_barred, seen_node}
use Rattle.joins.specs.Verdicts.{verdict_at}
use Rattle.proof_tree.specs.declared.line.Line.{Line}
use Rattle.proof_tree.specs.declared.line.Line.TheVariants.{Horizon, Prune, Bound, Dot, Stuck, Goal, Empty, Barred, Next, Branch, Skip, Open, Range}
use Rattle.check_lines.specs.State.{Fork, may_take}
use Rattle.check_lines.specs.Awaited.{Awaited, node_awaited, prune_awaited, body_awaited, part_awaited, case_awaited, ranged_awaited, none_awaited}
use Rattle.check_lines.specs.Ledger.{Ledger, Entry, next_entry, branch_entry, only_ledger, part_closed, part_close, node_closed, node_close, space_left, ledger_end, may_begin, begun, begins, ledger_body, ledger_node, ledger_prune, passed_over, gone_into, ledger_case, ledger_fork, at_entry, goes_at, goes}
use Rattle.check_lines.specs.LedgerHeld.{goes_through}

-- where there is a ledger, at most 1,000 nodes and branches are open in it
abbrev pub AllLow : Option Ledger → Type 0
AllLow None = Unit {0}
AllLow (Some d) = length d.entries ≤ 1000

some_space : (n : ℕ) → nat_lt n 1000 ≡ true → suc n ≤ 1000
some_space n e = grind (arith, nat_tests)

only_low : (c : Bool) (d : Ledger) → length d.entries ≤ 1000 → AllLow (only_ledger c d)
only_low true d h = h
only_low false d h = tt

-- one more is open
more_low : (c : Bool) (d e : Ledger) → length e.entries ≡ suc (length d.entries) → AllLow (only_ledger (c && space_left d) e)
more_low false d e h = tt
more_low true d e h = by (space_left d) refl
  where
    by : (b : Bool) → space_left d ≡ b → AllLow (only_ledger b e)
    by true f = let k = some_space (length d.entries) f in omega (arith, h, k)
    by false f = tt

may_low : (c : Bool) (p : Option Ledger) → AllLow p → AllLow (cond c p None)
may_low true p h = h
may_low false p h = tt

module _ (g : Game) where
  part_fewer : (d : Ledger) (fs : List Entry) (i : ℕ) (h : Option ℕ) (xs : List Seen) (a : List ℤ) → length (part_closed g d fs i h xs a).entries ≤ length fs
  part_fewer d [] i h xs a = omega arith
  part_fewer d (branch_entry b ∷ fs) i h xs a = omega arith
  part_fewer d (next_entry up above z ∷ fs) i h xs a = let k = part_fewer d fs (i - 1) z (up ++ seen_node (verdict_at g i a xs) ∷ []) above in omega (arith, k)

  node_fewer : (d : Ledger) (fs : List Entry) (i : ℕ) (h : Option ℕ) (v : Verdict) → length (node_closed g d fs i h v).entries ≤ length fs
  node_fewer d [] i h v = omega arith
  node_fewer d (branch_entry b ∷ fs) i h v = omega arith
  node_fewer d (next_entry up above z ∷ fs) i h v = let k = part_fewer d fs (i - 1) z (up ++ seen_node v ∷ []) above in omega (arith, k)

  ends_low : (c : Bool) (d : Ledger) (xs : List Seen) → length d.entries ≤ 1000 → AllLow (only_ledger c (part_close g d xs))
  ends_low c d xs q = let k = part_fewer d d.entries d.number d.horizon (d.seen ++ xs) d.before in only_low c (part_close g d xs) (omega (arith, k, q))

  closes_low : (c : Bool) (d : Ledger) (v : Verdict) → length d.entries ≤ 1000 → AllLow (only_ledger c (node_close g d v))
  closes_low c d v q = let k = node_fewer d d.entries d.number d.horizon v in only_low c (node_close g d v) (omega (arith, k, q))

  end_low : (d : Ledger) (l : Line) → length d.entries ≤ 1000 → AllLow (ledger_end g d l)
  end_low d (Prune x low high c) q = only_low _ _ q
  end_low d (Bound x low high) q = only_low _ _ q
  end_low d Empty q = ends_low _ d [] q
  end_low d Barred q = ends_low _ d (seen_barred ∷ []) q
  end_low d Next q = more_low _ d _ refl
  end_low d (Branch x) q = more_low _ d _ refl
  end_low d (Horizon k) q = tt
  end_low d Dot q = tt
  end_low d Stuck q = tt
  end_low d Goal q = tt
  end_low d Skip q = tt
  end_low d Open q = tt
  end_low d (Range high) q = tt

  begins_low : (d : Ledger) (l : Line) → length d.entries ≤ 1000 → AllLow (begins g d l)
  begins_low d l q = may_low (may_begin g d) (ledger_end g (begun g d) l) (end_low (begun g d) l q)

  body_low : (d : Ledger) (l : Line) → length d.entries ≤ 1000 → AllLow (ledger_body g d l)
  body_low d Stuck q = closes_low _ d _ q
  body_low d Goal q = closes_low _ d _ q
  body_low d (Prune x low high c) q = begins_low d (Prune x low high c) q
  body_low d (Bound x low high) q = begins_low d (Bound x low high) q
  body_low d Empty q = begins_low d Empty q
  body_low d Barred q = begins_low d Barred q
  body_low d Next q = begins_low d Next q
  body_low d (Branch x) q = begins_low d (Branch x) q
  body_low d (Horizon k) q = begins_low d (Horizon k) q
  body_low d Dot q = begins_low d Dot q
  body_low d Skip q = begins_low d Skip q
  body_low d Open q = begins_low d Open q
  body_low d (Range high) q = begins_low d (Range high) q

  node_low : (d : Ledger) (l : Line) → length d.entries ≤ 1000 → AllLow (ledger_node g d l)
  node_low d (Horizon zero) q = tt
  node_low d (Horizon (suc k)) q = only_low _ _ q
  node_low d Stuck q = body_low d Stuck q
  node_low d Goal q = body_low d Goal q
  node_low d (Prune x low high c) q = body_low d (Prune x low high c) q
  node_low d (Bound x low high) q = body_low d (Bound x low high) q
  node_low d Empty q = body_low d Empty q
  node_low d Barred q = body_low d Barred q
  node_low d Next q = body_low d Next q
  node_low d (Branch x) q = body_low d (Branch x) q
  node_low d Dot q = body_low d Dot q
  node_low d Skip q = body_low d Skip q
  node_low d Open q = body_low d Open q
  node_low d (Range high) q = body_low d (Range high) q

  prune_low : (d : Ledger) (k : ℕ) (box : Box) (l : Line) → length d.entries ≤ 1000 → AllLow (ledger_prune g d k box l)
  prune_low d k box (Prune x low high c) q = only_low _ _ q
  prune_low d k box (Bound x low high) q = only_low _ _ q
  prune_low d k box Dot q = only_low _ _ q
  prune_low d k box (Horizon j) q = tt
  prune_low d k box Stuck q = tt
  prune_low d k box Goal q = tt
  prune_low d k box Empty q = tt
  prune_low d k box Barred q = tt
  prune_low d k box Next q = tt
  prune_low d k box (Branch x) q = tt
  prune_low d k box Skip q = tt
  prune_low d k box Open q = tt
  prune_low d k box (Range high) q = tt

  module _ (d : Ledger) (q : length d.entries ≤ 1000) (b : Fork) (fs : List Entry) (r : suc (length fs) ≤ 1000) where
    taken_low : (upto : Option ℤ) (l : Line) → AllLow (cond (may_take upto b) (ledger_end g (gone_into d b fs upto) l) None)
    taken_low upto l = may_low (may_take upto b) (ledger_end g (gone_into d b fs upto) l) (end_low (gone_into d b fs upto) l r)

    case_low : (upto : Option ℤ) (l : Line) → AllLow (ledger_case g d b fs upto l)
    case_low upto Skip = only_low _ (passed_over d b fs upto false) r
    case_low upto Open = only_low _ (passed_over d b fs upto true) r
    case_low upto (Prune y low high c) = taken_low upto (Prune y low high c)
    case_low upto (Bound y low high) = taken_low upto (Bound y low high)
    case_low upto Empty = taken_low upto Empty
    case_low upto Barred = taken_low upto Barred
    case_low upto Next = taken_low upto Next
    case_low upto (Branch y) = taken_low upto (Branch y)
    case_low upto (Horizon k) = taken_low upto (Horizon k)
    case_low upto Dot = taken_low upto Dot
    case_low upto Stuck = taken_low upto Stuck
    case_low upto Goal = taken_low upto Goal
    case_low upto (Range high) = taken_low upto (Range high)

    fork_low : (l : Line) → AllLow (ledger_fork g d b fs l)
    fork_low Dot = ends_low _ (record d { entries = fs }) [] (omega (arith, r))
    fork_low (Range high) = q
    fork_low Skip = case_low None Skip
    fork_low Open = case_low None Open
    fork_low (Prune y low high c) = case_low None (Prune y low high c)
    fork_low (Bound y low high) = case_low None (Bound y low high)
    fork_low Empty = case_low None Empty
    fork_low Barred = case_low None Barred
    fork_low Next = case_low None Next
    fork_low (Branch y) = case_low None (Branch y)
    fork_low (Horizon k) = case_low None (Horizon k)
    fork_low Stuck = case_low None Stuck
    fork_low Goal = case_low None Goal

  entry_low : (f : Fork → List Entry → Option Ledger) → ((b : Fork) (fs : List Entry) → suc (length fs) ≤ 1000 → AllLow (f b fs)) → (es : List Entry) → length es ≤ 1000 → AllLow (at_entry es f)
  entry_low f each [] q = tt
  entry_low f each (next_entry xs a z ∷ fs) q = tt
  entry_low f each (branch_entry b ∷ fs) q = each b fs q

  awaited_low : (d : Ledger) (l : Line) (u : Awaited) → length d.entries ≤ 1000 → AllLow (goes_at g d u l)
  awaited_low d l node_awaited q = node_low d l q
  awaited_low d l (prune_awaited k box) q = prune_low d k box l q
  awaited_low d l body_awaited q = body_low d l q
  awaited_low d l part_awaited q = end_low d l q
  awaited_low d l case_awaited q = entry_low (λ b fs. ledger_fork g d b fs l) (λ b fs r. fork_low d q b fs r l) d.entries q
  awaited_low d l (ranged_awaited high) q = entry_low (λ b fs. ledger_case g d b fs (Some high) l) (λ b fs r. case_low d q b fs r (Some high) l) d.entries q
  awaited_low d l none_awaited q = tt

  pub goes_low : (p : Option Ledger) (l : Line) → AllLow p → AllLow (goes g p l)
  goes_low None l q = tt
  goes_low (Some d) l q = awaited_low d l d.awaited q

  -- where there is none, no line gives one
  pub none_left : (ls : List Line) → goes_through g None ls ≡ None
  none_left [] = refl
  none_left (l ∷ ls) = none_left ls
