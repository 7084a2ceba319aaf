-- Nodes that a search has settled: which lines stand wherever the position looks the same.
use Rattle.std.specs.Prelude.{◌≡◌, ◌≤◌, ℕ, true, false, Option, List, drop, ℤ, Bool}
use Rattle.qc_model.specs.Content.{Game}
use Rattle.qc_model.specs.Demands.{demands}
use Rattle.qc_model.specs.Domains.{Box}
use Rattle.qc_model.specs.Verdict.{Verdict}
use Rattle.likeness.specs.Likeness.{IsLike}
use Rattle.proof_tree.specs.Tree.{Tree}
use Rattle.proof_tree.specs.Lines.{tree_lines}
use Rattle.proof_tree.specs.declared.line.Line.{Line}
use Rattle.search_kept.specs.Aside.{IsWhole}
use Rattle.search_parts.specs.Made.{NodeMade}
use Rattle.search_parts.specs.Settled.{is_vague_verdict, beats_none}

-- the lines are those of the tree, which is that of each node of scope i whose box is like these values
pub record IsKnownBy (g : Game) (i : ℕ) (h : Option ℕ) (vs : List ℤ) (v : Verdict) (turns : ℕ) (ls : List Line) (t : Tree) : Type 0 where
  pub lines : ls ≡ tree_lines t
  pub whole : (box : Box) → IsLike g i vs box → IsWhole g i h v turns t box

abbrev pub IsKnown : Game → ℕ → Option ℕ → List ℤ → Verdict → ℕ → List Line → Type 0
IsKnown g i h vs v turns ls = (t : Tree) × IsKnownBy g i h vs v turns ls t

-- the lines that are known for these values stand at the node of scope i in this box, where so many turns are left
pub record StandsHere (g : Game) (i : ℕ) (h : Option ℕ) (left : ℕ) (box : Box) (v : Verdict) (turns : ℕ) (ls : List Line) : Type 0 where
  pub values : List ℤ
  pub few : turns ≤ left
  pub like : IsLike g i values box
  pub known : IsKnown g i h values v turns ls
  pub sure : is_vague_verdict beats_none v ≡ false

-- the lines are those of a node of scope i in this box, below the horizon h, by a search that cuts; it came to v, and the turns
-- that were left fell from had to left
pub record IsEnded (g : Game) (i : ℕ) (box : Box) (h : Option ℕ) (v : Verdict) (had left : ℕ) (ls : List Line) : Type 0 where
  pub above : ℤ → Bool
  pub tree : Tree
  pub lines : ls ≡ tree_lines tree
  pub made : NodeMade true above g (drop i g.scopes) i (demands g i) box h v had left tree
