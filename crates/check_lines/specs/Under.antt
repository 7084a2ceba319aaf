-- The lines since a node was due, until its end.
use Rattle.std.specs.Prelude.{◌≡◌, ◌+◌, ◌-◌, ◌^◌, ◌<◌, ◌≤◌, min, Bool, true, false, Some, List, [], ◌∷◌, ◌++◌, length, drop}
use Rattle.qc_model.specs.Content.{Game}
use Rattle.qc_model.specs.Demands.{demands}
use Rattle.qc_model.specs.Verdict.{Seen, seen_node}
use Rattle.proof_tree.specs.Tree.{Tree}
use Rattle.proof_tree.specs.InPlace.{in_place}
use Rattle.proof_tree.specs.Read.{read}
use Rattle.proof_tree.specs.Counts.{turns_of, opens_of, depth_of}
use Rattle.proof_tree.specs.declared.line.Line.{Line}
use Rattle.proof_tree.specs.Lines.{tree_lines}
use Rattle.check_lines.specs.Tally.{Tally, nothing}
use Rattle.check_lines.specs.State.{Above, at_root, State, node_due, prune_due, body_due, end_due, case_due, ranged_due, ended, wrong, run}
use Rattle.check_lines.specs.Awaited.{node_awaited, case_awaited}
use Rattle.check_lines.specs.Ledger.{Ledger, place_at}
use Rattle.check_lines.specs.LedgerHeld.{Tells, goes_through}

-- the node of a ledger, with nothing above it and nothing counted
abbrev pub alone : Game → Ledger → State
alone g d = node_due nothing at_root (place_at g d.number d.horizon) d.box

-- no line of the node is to come: it has ended, or the lines aren't the beginning of one
abbrev pub is_over : State → Bool
is_over (node_due n above s box) = false
is_over (prune_due n above s k box left) = false
is_over (body_due n above s box) = false
is_over (end_due n around o box) = false
is_over (case_due n around o b) = false
is_over (ranged_due n around o b high) = false
is_over (ended n f) = true
is_over wrong = true

-- a node was due at d, below another one, these lines came since, p is what they made of d, and the node hasn't ended
pub record IsUnder (g : Game) (d : Ledger) (ls : List Line) (p : Ledger) : Type 0 where
  pub node : d.awaited ≡ node_awaited
  pub tally : Tally
  pub above : Above
  pub stands : Tells g (node_due tally above (place_at g d.number d.horizon) d.box) d
  pub some : 0 < length d.entries
  pub few : length d.entries ≤ 1000
  pub now : goes_through g (Some d) ls ≡ Some p
  pub on : is_over (run g (alone g d) ls) ≡ false

-- these lines are those of a tree that is in place at d's node, and e is what they made of d
pub record EndsUnder (g : Game) (d : Ledger) (ls : List Line) (e : Ledger) : Type 0 where
  pub tree : Tree
  pub lines : ls ≡ tree_lines tree
  pub placed : in_place g tree (drop d.number g.scopes) d.number (demands g d.number) d.box d.horizon ≡ true
  pub turns : e.turns ≡ min (d.turns + turns_of tree) (2 ^ 64 - 1)
  pub opens : e.has_open ≡ false → opens_of tree ≡ 0
  pub shallow : length d.entries + depth_of tree ≤ 1000
  -- where a case is due one level up, the last that was seen there is what the node came to
  pub verdict : e.awaited ≡ case_awaited → length e.entries + 1 ≡ length d.entries →
      (xs : List Seen) × (e.seen ≡ xs ++ seen_node (read g tree (drop d.number g.scopes) d.number (demands g d.number) d.box).verdict ∷ [])
