-- How long and how large the numbers are that a ledger keeps after so many lines.
use Rattle.std.specs.Prelude.{◌≡◌, ⊤, ◌≤◌, ◌<◌, ◌+◌, ◌-◌, ℕ, suc, Bool, true, List, [], ◌∷◌, ◌++◌, length, Option, Some, None, ℤ, drop}
use Rattle.std.specs.List.{list_all}
use Rattle.qc_model.specs.Content.{Game}
use Rattle.qc_model.specs.Demands.{demands}
use Rattle.qc_model.specs.Domains.{Box}
use Rattle.qc_model.specs.ForallVerdict.{goal_verdict}
use Rattle.qc_model.specs.Valid.{is_number}
use Rattle.qc_model.specs.Verdict.{Verdict, Seen, seen_node}
use Rattle.joins.specs.Joins.{IsLong}
use Rattle.joins.specs.Sizes.{AreLong, IsSized, HasSizes, AreNumbers}
use Rattle.joins.specs.Verdicts.{verdict_at, stuck_of}
use Rattle.check_lines.specs.Awaited.{Awaited, node_awaited, prune_awaited, body_awaited, part_awaited, case_awaited, ranged_awaited, none_awaited}
use Rattle.check_lines.specs.Ledger.{Ledger, Entry, next_entry, branch_entry}

-- each value that is left is at most 10^9
abbrev pub HasNumbers : Box → Type 0
HasNumbers box = list_all (list_all is_number) box ≡ true

-- what scopes come to, by what was seen in their own trees, is long, and as large as that was
pub record VerdictLaws (g : Game) : Type 0 where
  pub long : (i : ℕ) (a : List ℤ) (xs : List Seen) → i < length g.scopes → AreLong g i xs → IsLong g i (verdict_at g i a xs)
  pub sized : (i : ℕ) (a : List ℤ) (xs : List Seen) (n : ℕ) → AreNumbers a → HasSizes n xs → 1 ≤ n → IsSized n (verdict_at g i a xs)
  pub stuck_long : (i : ℕ) (a : List ℤ) → IsLong g i (stuck_of (drop i g.scopes) g (demands g i) a)
  pub stuck_sized : (i : ℕ) (a : List ℤ) → AreNumbers a → IsSized 1 (stuck_of (drop i g.scopes) g (demands g i) a)
  pub goal_long : (i : ℕ) (a : List ℤ) (holds : Bool) → IsLong g i (goal_verdict g holds (demands g i) a)
  pub goal_sized : (i : ℕ) (a : List ℤ) (holds : Bool) → AreNumbers a → IsSized 1 (goal_verdict g holds (demands g i) a)

-- of scope i's own tree these were seen, after the values a; their numbers sum to at most n * 10^9
pub record ScopeKeeps (g : Game) (n i : ℕ) (xs : List Seen) (a : List ℤ) : Type 0 where
  pub inside : i < length g.scopes
  pub values : AreNumbers a
  pub long : AreLong g i xs
  pub sizes : HasSizes n xs

-- what is open above scope i, with n for all scopes together
abbrev pub EntriesKeep : Game → ℕ → List Entry → ℕ → Type 0
EntriesKeep g n [] i = ⊤
EntriesKeep g n (branch_entry b ∷ fs) i = HasNumbers b.box × AreNumbers b.left × EntriesKeep g n fs i
EntriesKeep g n (next_entry xs a h ∷ fs) i = (m : ℕ) × (k : ℕ) × (m + k ≤ n) × (0 < i) × ScopeKeeps g m (i - 1) xs a × EntriesKeep g k fs (i - 1)

-- scope i's own tree and what is open above it, with n for all together, of which `here` are for this scope
pub record PartKeeps (g : Game) (n : ℕ) (fs : List Entry) (i : ℕ) (xs : List Seen) (a : List ℤ) : Type 0 where
  pub here : ℕ
  pub above : ℕ
  pub all : here + above ≤ n
  pub scope : ScopeKeeps g here i xs a
  pub entries : EntriesKeep g above fs i

-- the same where the own tree has ended, with a line at least
pub record ClosesKeep (g : Game) (n : ℕ) (fs : List Entry) (i : ℕ) (xs : List Seen) (a : List ℤ) : Type 0 where
  pub part : PartKeeps g n fs i xs a
  pub some : 1 ≤ part.here

-- a node of scope i, and what is open above it
pub record NodeKeeps (g : Game) (n : ℕ) (d : Ledger) : Type 0 where
  pub inside : d.number ≤ length g.scopes
  pub entries : EntriesKeep g n d.entries d.number

-- a whole node
pub record EndKeeps (g : Game) (n : ℕ) (d : Ledger) : Type 0 where
  pub long : IsLong g d.number d.verdict
  pub sized : IsSized n d.verdict

abbrev pub AwaitedKeeps : Game → ℕ → Ledger → Awaited → Type 0
AwaitedKeeps g n d node_awaited = NodeKeeps g n d
AwaitedKeeps g n d (prune_awaited k box) = NodeKeeps g n d × HasNumbers box
AwaitedKeeps g n d body_awaited = NodeKeeps g n d
AwaitedKeeps g n d part_awaited = PartKeeps g n d.entries d.number d.seen d.before
AwaitedKeeps g n d case_awaited = PartKeeps g n d.entries d.number d.seen d.before
AwaitedKeeps g n d (ranged_awaited high) = PartKeeps g n d.entries d.number d.seen d.before
AwaitedKeeps g n d none_awaited = EndKeeps g n d

-- what a ledger keeps after n lines
pub record KeepsSizes (g : Game) (n : ℕ) (d : Ledger) : Type 0 where
  pub box : HasNumbers d.box
  pub waits : AwaitedKeeps g n d d.awaited

abbrev pub KeepsSizesAt : Game → ℕ → Option Ledger → Type 0
KeepsSizesAt g n None = ⊤
KeepsSizesAt g n (Some d) = KeepsSizes g n d

-- a node below scope i has come to v after these were seen: so long, and with these at most n * 10^9
pub record NodeFits (g : Game) (n i : ℕ) (xs : List Seen) (v : Verdict) : Type 0 where
  pub long : IsLong g (suc i) v
  pub sizes : HasSizes n (xs ++ seen_node v ∷ [])
