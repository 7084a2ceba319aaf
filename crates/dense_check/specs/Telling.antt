-- Which ledger a machine tells.
use Rattle.std.specs.Prelude.{◌≡◌, ◌≤◌, ℕ, true, false, Bool, cond, Option, Some, None, List, take, ℤ}
use Rattle.qc_model.specs.Content.{Game}
use Rattle.fd_store.specs.Held.{Held, trail_len, past_box}
use Rattle.dense_tree.specs.Place.{Setting, Place}
use Rattle.dense_tree.specs.InPlace.{cases_placed}
use Rattle.dense_tree.specs.Lines.{Line}
use Rattle.dense_tree.specs.Proves.{are_in_order}
use Rattle.dense_tree.specs.Tree.{Given}
use Rattle.dense_box.specs.Standing.{StandsFor}
use Rattle.dense_box.specs.Wished.{TracksAll}
use Rattle.dense_ledger.specs.Ledger.{Ledger, Entry as EntryTold, Fork, Frame, part_line, begun, may_go, gone_into, case_place}
use Rattle.dense_nest.specs.declared.place.Entry.{Entry}
use Rattle.dense_nest.specs.declared.place.Due.{Due}
use Rattle.dense_nest.specs.declared.place.Due.TheVariants as due
use Rattle.dense_nest.specs.Telling as nest
use Rattle.dense_check.specs.declared.machine.DenseMachine.{DenseMachine}

abbrev pub game_of : DenseMachine → Game
game_of m = nest.game_of m.nest

-- what was made of the problem speaks of its game
pub record IsMade (m : DenseMachine) : Type 0 where
  pub closed : m.closer ≡ game_of m
  pub wishes : TracksAll (game_of m) m.wishes
  pub boxes : m.positions.game ≡ game_of m

-- these tuples were given
pub record Knows (m : DenseMachine) (us : List Given) : Type 0 where
  pub made : IsMade m
  pub given : StandsFor (game_of m) us m.freedom
  pub order : are_in_order us ≡ true

-- in a scope's own tree, at a node, at a branch, and before the root
pub record IsPart (m : DenseMachine) (d : Ledger) : Type 0 where
  pub knows : Knows m d.given
  pub part : nest.IsPart m.nest d.given m.positions.boxes d

pub record IsNode (m : DenseMachine) (e : Entry) (d : Ledger) : Type 0 where
  pub knows : Knows m d.given
  pub node : nest.IsNode m.nest d.given m.positions.boxes e d

pub record IsAtFork (m : DenseMachine) (d : Ledger) : Type 0 where
  pub knows : Knows m d.given
  pub fork : nest.IsAtFork m.nest d.given m.positions.boxes d

pub record IsAtRoot (m : DenseMachine) (d : Ledger) : Type 0 where
  pub knows : Knows m d.given
  pub root : nest.IsAtRoot m.nest d.given m.positions.boxes d

pub record Tells (m : DenseMachine) (d : Ledger) : Type 0 where
  pub knows : Knows m d.given
  pub tells : nest.Tells m.nest d.given m.positions.boxes d

-- the machine tells this ledger, or that a line was out of place
abbrev pub TellsOf : DenseMachine → Option Ledger → Type 0
TellsOf m None = m.nest.due ≡ due.Wrong
TellsOf m (Some d) = Tells m d

abbrev pub IsReady : DenseMachine → Type 0
IsReady m = (p : Option Ledger) × TellsOf m p

-- nothing but what is left has changed, or nothing but what is due
abbrev pub with_remains : Held → DenseMachine → DenseMachine
with_remains s m = record m { nest = record (m.nest) { remains = s } }

abbrev pub with_due : Due → DenseMachine → DenseMachine
with_due x m = record m { nest = record (m.nest) { due = x } }

-- after a step, in place or not: more of the own tree, below a bound or not
abbrev pub due_after : Bool → Bool → Due
due_after true bounded = due.Part bounded
due_after false bounded = due.Wrong

-- as much is left as before, and behind each place of the trail
pub record IsSameHeld (s t : Held) : Type 0 where
  pub len : trail_len t ≡ trail_len s
  pub box : t.box ≡ s.box
  pub boxes : (k : ℕ) → k ≤ trail_len s → past_box t k ≡ past_box s k

-- what is read stands here
abbrev pub here_in : DenseMachine → Bool → Place
here_in m bounded = nest.here_in m.nest bounded

abbrev pub InPart : DenseMachine → Type 0
InPart m = (d : Ledger) × IsPart m d

abbrev pub InNode : DenseMachine → Entry → Type 0
InNode m e = (d : Ledger) × IsNode m e d

abbrev pub AtFork : DenseMachine → Type 0
AtFork m = (d : Ledger) × IsAtFork m d

-- whatever ledger is told there, the machine goes on to what f makes of it
abbrev pub PartGoes : DenseMachine → DenseMachine → (Ledger → Option Ledger) → Type 0
PartGoes old new f = (d : Ledger) → IsPart old d → TellsOf new (f d)

abbrev pub NodeGoes : DenseMachine → Entry → DenseMachine → (Ledger → Option Ledger) → Type 0
NodeGoes old e new f = (d : Ledger) → IsNode old e d → TellsOf new (f d)

abbrev pub ForkGoes : DenseMachine → DenseMachine → (Ledger → Option Ledger) → Type 0
ForkGoes old new f = (d : Ledger) → IsAtFork old d → TellsOf new (f d)

-- the values that were gathered of a tuple: all of them, or the first 501
abbrev pub IsGathered : List ℤ → List ℤ → Type 0
IsGathered vs t = vs ≡ take 501 t

-- the first line of a node's own tree, whichever it is, and that of a case that is gone into
abbrev pub begins_with : Setting → Ledger → EntryTold → Line → Option Ledger
begins_with s d e l = cond (cases_placed e.place) (part_line s (begun d e) e.place l) None

abbrev pub enters_with : Setting → Ledger → Fork → List Frame → Option ℤ → Line → Option Ledger
enters_with s d b fs upto l = cond (may_go b upto) (part_line s (gone_into d b fs upto) (case_place b upto) l) None
