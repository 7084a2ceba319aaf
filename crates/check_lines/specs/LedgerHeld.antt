-- What a ledger stands for, in every game.
use Rattle.std.specs.Prelude.{◌≡◌, ℕ, suc, ◌-◌, ◌<◌, min, ◌^◌, nat_lt, true, false, Option, Some, None, List, [], ◌∷◌, length, map, ◌⊎◌, ℤ}
use Rattle.qc_model.specs.Content.{Game}
use Rattle.qc_model.specs.Domains.{declared_box}
use Rattle.qc_model.specs.Verdict.{unknown, Seen}
use Rattle.proof_tree.specs.declared.line.Line.{Line}
use Rattle.proof_tree.specs.Tree.{Tree}
use Rattle.proof_tree.specs.InPlace.{root_in_place}
use Rattle.proof_tree.specs.Read.{root_finding}
use Rattle.proof_tree.specs.Counts.{turns_of, opens_of}
use Rattle.proof_tree.specs.Finding.{Finding, seen_of}
use Rattle.check_lines.specs.Tally.{Tally}
use Rattle.check_lines.specs.State.{Spot, Own, Fork, Above, at_root, below, Within, whole_tree, in_case, State, node_due, prune_due, body_due, end_due, case_due, ranged_due, ended, wrong}
use Rattle.check_lines.specs.Awaited.{node_awaited, prune_awaited, body_awaited, part_awaited, case_awaited, ranged_awaited, none_awaited}
use Rattle.check_lines.specs.Ledger.{Ledger, Entry, next_entry, branch_entry, place_at, goes}
use Rattle.check_lines.specs.Nests.{all_in_place, nests}

-- of scope i's own tree these were seen so far, after these values, under the horizon h
pub record IsOwnOf (g : Game) (i : ℕ) (h : Option ℕ) (o : Own) (xs : List Seen) (a : List ℤ) : Type 0 where
  pub place : o.spot ≡ place_at g i h
  pub inside : i < length g.scopes
  pub values : a ≡ o.before
  pub all : xs ≡ map seen_of o.leaves

abbrev mutual
  pub AboveIs : Game → Above → List Entry → ℕ → Type 0
  AboveIs g at_root fs i = fs ≡ []
  AboveIs g (below o w around) fs i =
      (xs : List Seen) × (a : List ℤ) × (h : Option ℕ) × (more : List Entry) × (j : ℕ) × (fs ≡ next_entry xs a h ∷ more) × (i ≡ suc j) × IsOwnOf g j h o xs a × WithinIs g around more j

  pub WithinIs : Game → Within → List Entry → ℕ → Type 0
  WithinIs g (whole_tree above) fs i = AboveIs g above fs i
  WithinIs g (in_case b around) fs i = (more : List Entry) × (fs ≡ branch_entry b ∷ more) × WithinIs g around more i

pub record Counts (n : Tally) (d : Ledger) : Type 0 where
  pub in_place : n.in_place ≡ true
  pub turns : d.turns ≡ min n.turns (2 ^ 64 - 1)
  pub opens : d.has_open ≡ nat_lt 0 n.opens

pub record NodeIs (g : Game) (n : Tally) (above : Above) (s : Spot) (d : Ledger) : Type 0 where
  pub tally : Counts n d
  pub frames : AboveIs g above d.entries d.number
  pub place : s ≡ place_at g d.number d.horizon

pub record PartIs (g : Game) (n : Tally) (around : Within) (o : Own) (d : Ledger) : Type 0 where
  pub tally : Counts n d
  pub frames : WithinIs g around d.entries d.number
  pub own : IsOwnOf g d.number d.horizon o d.seen d.before

pub record CaseIs (g : Game) (n : Tally) (around : Within) (o : Own) (b : Fork) (d : Ledger) : Type 0 where
  pub tally : Counts n d
  pub more : List Entry
  pub first : d.entries ≡ branch_entry b ∷ more
  pub frames : WithinIs g around more d.number
  pub own : IsOwnOf g d.number d.horizon o d.seen d.before

pub record EndIs (n : Tally) (f : Finding) (d : Ledger) : Type 0 where
  pub tally : Counts n d
  pub entries : d.entries ≡ []
  pub verdict : d.verdict ≡ f.verdict
  pub own : d.own ≡ f.own

abbrev pub Tells : Game → State → Ledger → Type 0
Tells g (node_due n above s box) d = (d.awaited ≡ node_awaited) × (d.box ≡ box) × NodeIs g n above s d
Tells g (prune_due n above s k box left) d = (d.awaited ≡ prune_awaited k box) × (d.box ≡ left) × NodeIs g n above s d
Tells g (body_due n above s box) d = (d.awaited ≡ body_awaited) × (d.box ≡ box) × NodeIs g n above s d
Tells g (end_due n around o box) d = (d.awaited ≡ part_awaited) × (d.box ≡ box) × PartIs g n around o d
Tells g (case_due n around o b) d = (d.awaited ≡ case_awaited) × CaseIs g n around o b d
Tells g (ranged_due n around o b high) d = (d.awaited ≡ ranged_awaited high) × CaseIs g n around o b d
Tells g (ended n f) d = (d.awaited ≡ none_awaited) × EndIs n f d
Tells g wrong d = ⊥

-- the ledger tells s; there is none where a line is out of place or nests too deep
abbrev pub Leads : Game → State → Option Ledger → Type 0
Leads g s None = (all_in_place s ≡ false) ⊎ (1000 < nests s)
Leads g s (Some d) = Tells g s d

abbrev pub first_ledger : Game → Ledger
first_ledger g = record {
  box = declared_box g;
  entries = [];
  awaited = node_awaited;
  number = 0;
  horizon = None;
  seen = [];
  before = [];
  verdict = unknown;
  own = None;
  turns = 0;
  has_open = false;
}

abbrev pub goes_through : Game → Option Ledger → List Line → Option Ledger
goes_through g p [] = p
goes_through g p (l ∷ ls) = goes_through g (goes g p l) ls

-- the ledger tells a whole tree, with each line in place
pub record TellsTree (g : Game) (t : Tree) (d : Ledger) : Type 0 where
  pub ends : d.awaited ≡ none_awaited
  pub in_place : root_in_place g t ≡ true
  pub verdict : d.verdict ≡ (root_finding g t).verdict
  pub own : d.own ≡ (root_finding g t).own
  pub turns : d.turns ≡ min (turns_of t) (2 ^ 64 - 1)
  pub has_open : d.has_open ≡ nat_lt 0 (opens_of t)
