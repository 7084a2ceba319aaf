-- What a checker that remembers nodes asks of a machine: which node is due, how one has ended, and that one is passed over.
use Rattle.std.specs.Prelude.{◌≡◌, ◌≤◌, ◌<◌, ◌+◌, ℕ, Bool, true, false, Option, Some, None, List, [], ◌∷◌, ◌++◌, length, drop}
use Rattle.qc_model.specs.Content.{Game}
use Rattle.qc_model.specs.Demands.{demands}
use Rattle.qc_model.specs.ForallVerdict.{goal_verdict}
use Rattle.qc_model.specs.Verdict.{Seen, seen_node}
use Rattle.joins.specs.Seen.{verdict_of}
use Rattle.joins.specs.Joins.{IsLong, out_of}
use Rattle.proof_tree.specs.Tree.{Tree}
use Rattle.proof_tree.specs.Counts.{depth_of, turns_of, opens_of}
use Rattle.proof_tree.specs.InPlace.{in_place}
use Rattle.proof_tree.specs.Read.{read}
use Rattle.check_lines.specs.declared.machine.Machine.{Machine}
use Rattle.check_lines.specs.declared.open.Open.{Open}
use Rattle.check_lines.specs.declared.open.Open.TheVariants.{Next, Branch}
use Rattle.check_lines.specs.declared.open.Due.TheVariants as due
use Rattle.check_lines.specs.declared.passing.NodeDue.{NodeDue}
use Rattle.check_lines.specs.declared.passing.NodeEnded.{NodeEnded}
use Rattle.check_lines.specs.Awaited.{node_awaited, case_awaited}
use Rattle.check_lines.specs.Ledger.{Ledger, place_at}
use Rattle.check_lines.specs.LedgerHeld.{Tells as Stands}
use Rattle.check_lines.specs.State.{Above, node_due}
use Rattle.check_lines.specs.Tally.{Tally}
use Rattle.check_lines.specs.Machine.{game_of}

-- the node that was opened last was reached in a case of a branch
abbrev pub is_in_case : List Open → Bool
is_in_case [] = false
is_in_case (Branch x mark from ∷ fs) = false
is_in_case (Next h ∷ []) = false
is_in_case (Next h ∷ Next z ∷ fs) = false
is_in_case (Next h ∷ Branch x mark from ∷ fs) = true

-- the node of a scope that is due
pub record IsDueIn (m : Machine) (n : NodeDue) : Type 0 where
  pub due : m.due ≡ due.Node
  pub scope : n.scope ≡ m.number
  pub within : m.number < length (game_of m).scopes
  pub horizon : n.horizon ≡ m.horizon
  pub depth : n.depth ≡ length m.nesting
  pub few : length m.nesting ≤ 1000
  pub turns : n.turns ≡ m.turns

-- the node that has ended, which was reached in a case of a branch
pub record HasEndedIn (m : Machine) (n : NodeEnded) : Type 0 where
  pub due : m.due ≡ due.Closed
  pub in_case : is_in_case m.nesting ≡ true
  pub found : n.found ≡ m.found
  pub turns : n.turns ≡ m.turns
  pub opens : m.has_open ≡ false

-- the tree is in place at the node of this ledger, fits there, leaves no case open, takes so many turns, and is won or lost
pub record IsPassed (g : Game) (d : Ledger) (t : Tree) (won : Bool) (taken : ℕ) : Type 0 where
  pub tally : Tally
  pub above : Above
  pub stands : Stands g (node_due tally above (place_at g d.number d.horizon) d.box) d
  pub placed : in_place g t (drop d.number g.scopes) d.number (demands g d.number) d.box d.horizon ≡ true
  pub verdict : (read g t (drop d.number g.scopes) d.number (demands g d.number) d.box).verdict ≡ goal_verdict g won [] []
  pub own : (read g t (drop d.number g.scopes) d.number (demands g d.number) d.box).own ≡ None
  pub opens : opens_of t ≡ 0
  pub turns : turns_of t ≡ taken
  pub shallow : length d.entries + depth_of t ≤ 1000

-- the ledger of a machine at a node
pub record DueTold (m : Machine) (p : Option Ledger) : Type 0 where
  pub ledger : Ledger
  pub is : p ≡ Some ledger
  pub awaited : ledger.awaited ≡ node_awaited
  pub number : ledger.number ≡ m.number
  pub horizon : ledger.horizon ≡ m.horizon
  pub box : ledger.box ≡ m.remains.box
  pub depth : length ledger.entries ≡ length m.nesting
  pub turns : ledger.turns ≡ m.turns

-- the ledger of a machine after a node that was reached in a case of a branch
pub record EndedTold (m : Machine) (p : Option Ledger) : Type 0 where
  pub ledger : Ledger
  pub is : p ≡ Some ledger
  pub awaited : ledger.awaited ≡ case_awaited
  pub depth : length ledger.entries + 1 ≡ length m.nesting
  pub before : List Seen
  pub seen : ledger.seen ≡ before ++ seen_node (verdict_of m.found (out_of m.joins)) ∷ []
  pub long : IsLong (game_of m) m.number (verdict_of m.found (out_of m.joins))
  pub turns : ledger.turns ≡ m.turns
  pub opens : ledger.has_open ≡ m.has_open
