-- What the calls of a nest make of the ledger that it tells.
use Rattle.std.specs.Prelude.{◌≡◌, ℕ, true, false, ◌&&◌, ◌==◌, List, [], ◌∷◌, Option, Some, None, is_some, ℤ, Bool}
use Rattle.qc_model.specs.Domains.{Box}
use Rattle.qc_model.specs.Content.{Game}
use Rattle.qc_model.specs.Verdict.{Verdict, lost, exact, unknown}
use Rattle.qc_model.specs.ForallVerdict.{entry_values, numbers_for}
use Rattle.proof_tree.specs.Place.{position}
use Rattle.joins.specs.Joins.{out_of, IsLong}
use Rattle.joins.specs.Seen.{verdict_of}
use Rattle.dense_tree.specs.Tree.{Given}
use Rattle.dense_tree.specs.Place.{Place}
use Rattle.dense_tree.specs.Read.{Known, or_unknown}
use Rattle.dense_ledger.specs.Ledger.{Ledger, Frame, waiting, forked, may_go, case_place, gone_into}
use Rattle.dense_nest.specs.declared.nodes.Reached.{Reached}
use Rattle.dense_nest.specs.declared.nodes.Reached.TheVariants.{Fails, Holds, Open}
use Rattle.dense_nest.specs.declared.place.Entry.{Entry}
use Rattle.dense_nest.specs.declared.told.Named.{Named}
use Rattle.dense_nest.specs.declared.nest.Nest.{Nest}
use Rattle.dense_nest.specs.Telling.{game_of, here_in, IsPart, IsNode, IsAtFork, TellsOf}

-- in a scope's own tree, at a node, or at a branch: some ledger is told
abbrev pub InPart : Nest → Type 0
InPart m = (us : List Given) × (boxes : List Box) × (d : Ledger) × IsPart m us boxes d

abbrev pub InNode : Nest → Entry → Type 0
InNode m e = (us : List Given) × (boxes : List Box) × (d : Ledger) × IsNode m us boxes e d

abbrev pub AtFork : Nest → Type 0
AtFork m = (us : List Given) × (boxes : List Box) × (d : Ledger) × IsAtFork m us boxes d

-- whatever ledger is told there, the nest goes on to what f makes of it
abbrev pub PartGoes : Nest → Nest → (Ledger → Option Ledger) → Type 0
PartGoes old new f = (us : List Given) (boxes : List Box) (d : Ledger) → IsPart old us boxes d → TellsOf new us boxes (f d)

abbrev pub NodeGoes : Nest → Entry → Nest → (Ledger → Option Ledger) → Type 0
NodeGoes old e new f = (us : List Given) (boxes : List Box) (d : Ledger) → IsNode old us boxes e d → TellsOf new us boxes (f d)

abbrev pub ForkGoes : Nest → Nest → (Ledger → Option Ledger) → Type 0
ForkGoes old new f = (us : List Given) (boxes : List Box) (d : Ledger) → IsAtFork old us boxes d → TellsOf new us boxes (f d)

-- it stays in the scope's own tree, and what is known of that becomes what f makes of it
abbrev pub PartStays : Nest → Nest → (Ledger → Ledger) → Type 0
PartStays old new f = (us : List Given) (boxes : List Box) (d : Ledger) → IsPart old us boxes d → IsPart new us boxes (f d)

-- a node has come to what was found, at its own box
pub record IsOver (m : Nest) (e : Entry) (us : List Given) (boxes : List Box) (v : Verdict) (d : Ledger) : Type 0 where
  pub node : IsNode m us boxes e d
  pub verdict : v ≡ verdict_of m.found (out_of m.joins)
  pub long : IsLong (game_of m) e.spot.number v

-- a case of the branch that was opened last may be gone into, and is; what is read stands where the case does
abbrev pub EntersFork : Nest → Bool → List Given → List Box → Ledger → Option ℤ → List Frame → Type 0
EntersFork m bounded us boxes d upto [] = ⊥
EntersFork m bounded us boxes d upto (waiting o ∷ fs) = ⊥
EntersFork m bounded us boxes d upto (forked b ∷ fs) = (may_go b upto ≡ true) × (here_in m bounded ≡ case_place b upto) × IsPart m us boxes (gone_into d b fs upto)

abbrev pub EntersCase : Nest → Nest → Option ℤ → Bool → Type 0
EntersCase old new upto bounded = (us : List Given) (boxes : List Box) (d : Ledger) → IsAtFork old us boxes d → EntersFork new bounded us boxes d upto d.frames

-- what the goal comes to, by what the box says of it
abbrev pub goal_of : Place → Game → Reached → Verdict
goal_of p g Fails = lost
goal_of p g Open = unknown
goal_of p g Holds = exact (entry_values g p.list (position g p.number p.box) (numbers_for p.list []))

-- the named node of scope i is there and has ended: as the nest has it, and as the ledger
abbrev pub is_told_in : Option Named → ℕ → Bool
is_told_in None i = false
is_told_in (Some n) i = is_some n.told && (n.spot.number == i)

abbrev pub is_told_at : Option Known → ℕ → Bool
is_told_at None i = false
is_told_at (Some k) i = is_some k.verdict && (k.place.number == i)

-- and what it has come to
abbrev pub verdict_known : Option Known → Verdict
verdict_known None = unknown
verdict_known (Some k) = or_unknown k.verdict

-- the node e has come to what f says, at its own box
abbrev pub Finds : Nest → Entry → Nest → (List Given → Ledger → Verdict) → Type 0
Finds old e new f = (us : List Given) (boxes : List Box) (d : Ledger) → IsNode old us boxes e d → IsOver new e us boxes (f us d) d
