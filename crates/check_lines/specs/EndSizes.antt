-- How large the numbers are that a ledger keeps, by the ends of the tree so far: goals, stuck nodes, empty boxes and barred
-- tuples. Other lines may be any number.
use Rattle.std.specs.Prelude.{◌≡◌, ⊤, ◌≤◌, ◌+◌, ℕ, true, List, [], ◌∷◌, length, Option, Some, None}
use Rattle.qc_model.specs.Content.{Game}
use Rattle.qc_model.specs.Domains.{Box, is_none_left}
use Rattle.qc_model.specs.Verdict.{Seen}
use Rattle.proof_tree.specs.declared.line.Line.{Line}
use Rattle.proof_tree.specs.declared.line.Line.TheVariants.{Horizon, Prune, Bound, Dot, Stuck, Goal, Empty, Barred, Next, Branch, Skip, Open, Range}
use Rattle.joins.specs.Ends.{HasEnds, IsOfEnds, HasPart}
use Rattle.check_lines.specs.Awaited.{Awaited, node_awaited, prune_awaited, body_awaited, part_awaited, case_awaited, ranged_awaited, none_awaited}
use Rattle.check_lines.specs.Ledger.{Ledger, Entry, next_entry, branch_entry}

-- the ends after one line more
abbrev pub ends_after : ℕ → Line → ℕ
ends_after n Stuck = n + 1
ends_after n Goal = n + 1
ends_after n Empty = n + 1
ends_after n Barred = n + 1
ends_after n (Horizon k) = n
ends_after n (Prune x low high c) = n
ends_after n (Bound x low high) = n
ends_after n Dot = n
ends_after n Next = n
ends_after n (Branch x) = n
ends_after n Skip = n
ends_after n Open = n
ends_after n (Range high) = n

-- after these
abbrev pub ends_through : ℕ → List Line → ℕ
ends_through n [] = n
ends_through n (l ∷ ls) = ends_through (ends_after n l) ls

-- a domain for each variable
abbrev pub IsWide : Game → Box → Type 0
IsWide g box = length box ≡ length g.variables

-- what is open, with n ends for all scopes together
abbrev pub EntriesEnds : Game → ℕ → List Entry → Type 0
EntriesEnds g n [] = ⊤
EntriesEnds g n (branch_entry b ∷ fs) = IsWide g b.box × EntriesEnds g n fs
EntriesEnds g n (next_entry xs a h ∷ fs) = (m : ℕ) × (k : ℕ) × (m + k ≤ n) × HasEnds m xs × EntriesEnds g k fs

-- a scope's own tree and what is open above it
pub record PartEnds (g : Game) (n : ℕ) (fs : List Entry) (xs : List Seen) : Type 0 where
  pub here : ℕ
  pub above : ℕ
  pub all : here + above ≤ n
  pub scope : HasEnds here xs
  pub entries : EntriesEnds g above fs

-- where the branch has no value left, a case of it has ended or was left out
abbrev pub HasTried : List Entry → ℕ → List Seen → Type 0
HasTried [] n xs = ⊤
HasTried (next_entry ys a h ∷ fs) n xs = ⊤
HasTried (branch_entry b ∷ fs) n xs = is_none_left b.left ≡ true → HasPart n xs

pub record CaseEnds (g : Game) (n : ℕ) (fs : List Entry) (xs : List Seen) : Type 0 where
  pub part : PartEnds g n fs xs
  pub tried : HasTried fs part.here xs

abbrev pub AwaitedEnds : Game → ℕ → Ledger → Awaited → Type 0
AwaitedEnds g n d node_awaited = EntriesEnds g n d.entries
AwaitedEnds g n d (prune_awaited k box) = EntriesEnds g n d.entries × IsWide g box
AwaitedEnds g n d body_awaited = EntriesEnds g n d.entries
AwaitedEnds g n d part_awaited = PartEnds g n d.entries d.seen
AwaitedEnds g n d case_awaited = CaseEnds g n d.entries d.seen
AwaitedEnds g n d (ranged_awaited high) = CaseEnds g n d.entries d.seen
AwaitedEnds g n d none_awaited = IsOfEnds n d.verdict

-- what a ledger keeps after n ends
pub record EndsSoFar (g : Game) (n : ℕ) (d : Ledger) : Type 0 where
  pub wide : IsWide g d.box
  pub waits : AwaitedEnds g n d d.awaited

abbrev pub EndsAt : Game → ℕ → Option Ledger → Type 0
EndsAt g n None = ⊤
EndsAt g n (Some d) = EndsSoFar g n d
