-- One way through a game.
use Rattle.std.specs.Prelude.{◌≡◌, ℕ, Bool, None, Option, List, [], ℤ}
use Rattle.qc_model.specs.Content.{Game}
use Rattle.qc_model.specs.Domains.{declared_box}
use Rattle.proof_tree.specs.Read.{root_finding}
use Rattle.proof_tree.specs.declared.line.Line.{Line}
use Rattle.joins.specs.Seen.{verdict_of}
use Rattle.joins.specs.declared.leaves.Found.{Found}
use Rattle.search_parts.specs.Settled.{beats_none}
use Rattle.search_parts.specs.Written.{NodeWritten}

-- the lines are a root that came to this within the turns, and own is the value of the first scope's condition
pub record Attempted (cuts : Bool) (g : Game) (turns : ℕ) (found : Found) (own : Option ℤ) (lines : List Line) : Type 0 where
  pub left : ℕ
  -- the vector, where it is exact
  pub vector : List ℤ
  pub root : NodeWritten cuts beats_none g g.scopes 0 [] (declared_box g) None (verdict_of found vector) turns left [] lines
  pub has_own : (root_finding g root.tree).own ≡ own
