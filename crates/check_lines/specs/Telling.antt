-- Which ledger a machine tells: joins stand for all that was seen, marks of the trail for boxes, and the first values for
-- those before each scope.
use Rattle.std.specs.Prelude.{◌≡◌, ◌-◌, ◌≤◌, ◌<◌, ℕ, Bool, cond, drop, Option, Some, None, List, [], ◌∷◌, ◌++◌, ℤ}
use Rattle.qc_model.specs.Content.{Game}
use Rattle.qc_model.specs.Verdict.{Verdict, Seen, seen_node}
use Rattle.qc_model.specs.Demands.{demands}
use Rattle.proof_tree.specs.Place.{position}
use Rattle.joins.specs.Seen.{verdict_of}
use Rattle.joins.specs.Joins.{StandsAt, out_of}
use Rattle.joins.specs.Verdicts.{verdict_at, own_at, stuck_of}
use Rattle.joins.specs.declared.joins.Joins.{Joins}
use Rattle.fd_store.specs.Held.{Held, past_box}
use Rattle.check_lines.specs.declared.open.Open.{Open}
use Rattle.check_lines.specs.declared.open.Open.TheVariants.{Next, Branch}
use Rattle.check_lines.specs.declared.open.Due.{Due}
use Rattle.check_lines.specs.declared.open.Due.TheVariants as due
use Rattle.check_lines.specs.declared.machine.Machine.{Machine}
use Rattle.proof_tree.specs.Cover.{is_cover}
use Rattle.proof_tree.specs.declared.line.Line.{Line}
use Rattle.check_lines.specs.State.{Fork, may_take}
use Rattle.check_lines.specs.Awaited.{Awaited, node_awaited, prune_awaited, body_awaited, part_awaited, case_awaited, ranged_awaited, none_awaited}
use Rattle.check_lines.specs.Ledger.{Ledger, Entry, next_entry, branch_entry, ends_with, part_closed, only_ledger, passed_over, gone_into, ledger_end, node_close}
use Rattle.check_lines.specs.Machine.{game_of, fork_at, before_of}
use Rattle.check_box.specs.Placed.{values_to}
use Rattle.check_lines.specs.LedgerSizes.{EntriesKeep, PartKeeps, ClosesKeep, NodeFits, KeepsSizesAt}
use Rattle.check_lines.specs.Passing.{IsSame}

-- what is open around scope i
abbrev pub AreEntries : Game → Held → List ℤ → Joins → ℕ → List Open → List Entry → Type 0
AreEntries g s vs js i [] [] = Unit {0}
AreEntries g s vs js i [] (e ∷ es) = ⊥
AreEntries g s vs js i (Next h ∷ fs) [] = ⊥
AreEntries g s vs js i (Next h ∷ fs) (branch_entry b ∷ es) = ⊥
AreEntries g s vs js i (Next h ∷ fs) (next_entry xs a z ∷ es) =
    (z ≡ h) × (a ≡ values_to g (i - 1) vs) × StandsAt js (i - 1) xs × AreEntries g s vs js (i - 1) fs es
AreEntries g s vs js i (Branch x mark from ∷ fs) [] = ⊥
AreEntries g s vs js i (Branch x mark from ∷ fs) (next_entry xs a z ∷ es) = ⊥
AreEntries g s vs js i (Branch x mark from ∷ fs) (branch_entry b ∷ es) = (b ≡ fork_at s x mark from) × AreEntries g s vs js i fs es

abbrev pub AreOpen : Machine → List Entry → Type 0
AreOpen m es = AreEntries (game_of m) m.remains m.values.items m.joins m.number m.nesting es

abbrev pub HasCounts : Machine → Ledger → Type 0
HasCounts m d = (d.turns ≡ m.turns) × (d.has_open ≡ m.has_open)

-- the ledger at a node; what d has besides is of no use there
abbrev pub node_at : Machine → Ledger → List Entry → Awaited → Ledger
node_at m d es u = record d { box = m.remains.box; entries = es; awaited = u; number = m.number; horizon = m.horizon }

-- and in a scope's own tree
abbrev pub part_at : Machine → Ledger → List Entry → List Seen → Awaited → Ledger
part_at m d es xs u = record d { box = m.remains.box; entries = es; awaited = u; number = m.number; horizon = m.horizon; seen = xs; before = before_of m }

-- what is open is what the machine keeps
pub record IsNode (m : Machine) (d : Ledger) (es : List Entry) : Type 0 where
  pub counts : HasCounts m d
  pub entries : AreOpen m es

pub record IsPart (m : Machine) (d : Ledger) (es : List Entry) (xs : List Seen) : Type 0 where
  pub counts : HasCounts m d
  pub entries : AreOpen m es
  pub stands : StandsAt m.joins m.number xs

pub record IsEnd (m : Machine) (d : Ledger) : Type 0 where
  pub ends : d.awaited ≡ none_awaited
  pub verdict : d.verdict ≡ verdict_of m.found (out_of m.joins)
  pub own : d.own ≡ m.own
  pub counts : HasCounts m d

-- a part of the scope's own tree has ended, after n lines
pub record IsPartEnd (n : ℕ) (m : Machine) (d : Ledger) (es : List Entry) (xs : List Seen) : Type 0 where
  pub few : n ≤ 4294967296
  pub part : IsPart m d es xs
  pub sizes : ClosesKeep (game_of m) n es m.number xs (before_of m)

-- what goes up to the scope before i fits there
abbrev pub GoesUp : Game → ℕ → List Entry → ℕ → Verdict → Type 0
GoesUp g n [] i v = Unit {0}
GoesUp g n (branch_entry b ∷ es) i v = Unit {0}
GoesUp g n (next_entry up above z ∷ es) i v = ClosesKeep g n es (i - 1) (up ++ seen_node v ∷ []) above × NodeFits g n (i - 1) up v

-- the node has come to v
pub record IsNodeEnd (n : ℕ) (m : Machine) (d : Ledger) (es : List Entry) (v : Verdict) : Type 0 where
  pub few : n ≤ 4294967296
  pub node : IsNode m d es
  pub verdict : v ≡ verdict_of m.found (out_of m.joins)
  pub sizes : GoesUp (game_of m) n es m.number v

-- a node of scope i has come to v, and the value of the scope's own condition is o
abbrev pub came : Game → Ledger → List Entry → ℕ → Option ℕ → Verdict → Option ℤ → Ledger
came g d [] i h v o = ends_with d i h v o
came g d (branch_entry b ∷ es) i h v o = ends_with d i h v o
came g d (next_entry up above z ∷ es) i h v o = part_closed g d es (i - 1) z (up ++ seen_node v ∷ []) above

abbrev pub part_ended : Machine → Ledger → List Entry → List Seen → Ledger
part_ended m d es xs = part_closed (game_of m) d es m.number m.horizon xs (before_of m)

abbrev pub scope_ended : Machine → Ledger → List Entry → List Seen → Ledger
scope_ended m d es xs = came (game_of m) d es m.number m.horizon (verdict_at (game_of m) m.number (before_of m) xs) (own_at (game_of m) m.number xs)

abbrev pub node_ended : Machine → Ledger → List Entry → Verdict → Ledger
node_ended m d es v = came (game_of m) d es m.number m.horizon v m.own

-- what is known in the scope before, once a node has come to v
pub record IsLeft (n : ℕ) (m : Machine) (d : Ledger) (p : Ledger) : Type 0 where
  pub outer : List Entry
  pub seen : List Seen
  pub part : IsPartEnd n m d outer seen
  pub ledger : p ≡ part_ended m d outer seen

abbrev pub TellsNode : Machine → Awaited → Option Ledger → Type 0
TellsNode m u p = (d : Ledger) × (es : List Entry) × IsNode m d es × (p ≡ Some (node_at m d es u))

abbrev pub TellsPart : Machine → Awaited → Option Ledger → Type 0
TellsPart m u p = (d : Ledger) × (es : List Entry) × (xs : List Seen) × IsPart m d es xs × (p ≡ Some (part_at m d es xs u))

abbrev pub TellsEnd : Machine → Option Ledger → Type 0
TellsEnd m p = (d : Ledger) × IsEnd m d × (p ≡ Some d)

-- a node has ended that isn't left yet; what no line reads any more may differ
abbrev pub TellsClosed : Machine → Option Ledger → Type 0
TellsClosed m p = (n : ℕ) × (d : Ledger) × (es : List Entry) × (v : Verdict) × (e : Ledger) × IsNodeEnd n m d es v × IsSame (node_ended m d es v) e × (p ≡ Some e)

abbrev pub TellsAt : Machine → Due → Option Ledger → Type 0
TellsAt m due.Node p = TellsNode m node_awaited p
TellsAt m (due.Prune k mark) p = TellsNode m (prune_awaited k (past_box m.remains mark.at)) p
TellsAt m due.Body p = TellsNode m body_awaited p
TellsAt m due.Part p = TellsPart m part_awaited p
TellsAt m due.Case p = TellsPart m case_awaited p
TellsAt m (due.Ranged high) p = TellsPart m (ranged_awaited high) p
TellsAt m due.Closed p = TellsClosed m p
TellsAt m due.Ended p = TellsEnd m p
TellsAt m due.Wrong p = p ≡ None

-- the machine tells this ledger, or that there is none
abbrev pub Tells : Machine → Option Ledger → Type 0
Tells m p = TellsAt m m.due p

-- and what it keeps after n lines is small enough for joins
pub record TellsAfter (n : ℕ) (m : Machine) (p : Option Ledger) : Type 0 where
  pub tells : Tells m p
  pub sizes : KeepsSizesAt (game_of m) n p

-- one line more makes of the ledger of a node, or of a part, what f makes of it
abbrev pub NodeTells : Machine → Machine → (Ledger → Option Ledger) → Type 0
NodeTells old new f =
    (n : ℕ) (d : Ledger) (es : List Entry) (u : Awaited) → n < 4294967296 → IsNode old d es → EntriesKeep (game_of old) n es old.number → Tells new (f (node_at old d es u))

abbrev pub PartTells : Machine → Machine → (Ledger → Option Ledger) → Type 0
PartTells old new f =
    (n : ℕ) (d : Ledger) (es : List Entry) (xs : List Seen) (u : Awaited) → n < 4294967296 → IsPart old d es xs → PartKeeps (game_of old) n es old.number xs (before_of old) →
    Tells new (f (part_at old d es xs u))

-- the machine tells this ledger of a part
pub record IsPartOf (m : Machine) (n : ℕ) (xs : List Seen) (u : Awaited) (p : Ledger) : Type 0 where
  pub base : Ledger
  pub entries : List Entry
  pub part : IsPart m base entries xs
  pub sizes : PartKeeps (game_of m) n entries m.number xs (before_of m)
  pub ledger : p ≡ part_at m base entries xs u

-- a case of the branch b has been gone into
abbrev pub GoesInto : Machine → Machine → Fork → Option ℤ → Type 0
GoesInto old new b upto =
    (n : ℕ) (d : Ledger) (es : List Entry) (xs : List Seen) (u : Awaited) → IsPart old d (branch_entry b ∷ es) xs → PartKeeps (game_of old) n (branch_entry b ∷ es) old.number xs (before_of old) →
    IsPartOf new n xs u (gone_into (part_at old d (branch_entry b ∷ es) xs u) b es upto)

-- a case that isn't gone into, and one that is
abbrev pub skips : Ledger → Fork → List Entry → Option ℤ → Bool → Option Ledger
skips d b es upto is_open = only_ledger (is_cover upto b.left) (passed_over d b es upto is_open)

abbrev pub takes : Game → Ledger → Fork → List Entry → Option ℤ → Line → Option Ledger
takes g d b es upto l = cond (may_take upto b) (ledger_end g (gone_into d b es upto) l) None

-- nobody passes the scope
abbrev pub stuck_ended : Game → Ledger → Ledger
stuck_ended g d = node_close g d (stuck_of (drop d.number g.scopes) g (demands g d.number) (position g d.number d.box))
