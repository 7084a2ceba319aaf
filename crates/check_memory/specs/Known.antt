-- What is known of a node wherever the position looks the same.
use Rattle.std.specs.Prelude.{◌≡◌, ◌≤◌, ◌+◌, ℕ, Bool, true, Option, None, List, drop, flat_map, length, take, IsTrue, ℤ}
use Rattle.qc_model.specs.Content.{Game}
use Rattle.qc_model.specs.Demands.{demands}
use Rattle.qc_model.specs.Domains.{Box}
use Rattle.likeness.specs.Likeness.{ask_nothing, decided_as, IsLike, line_looks, SeenAlike}
use Rattle.proof_tree.specs.Tree.{Tree}
use Rattle.proof_tree.specs.Counts.{depth_of, turns_of, opens_of}
use Rattle.proof_tree.specs.InPlace.{in_place}
use Rattle.proof_tree.specs.Lines.{tree_lines}
use Rattle.proof_tree.specs.Read.{read}
use Rattle.proof_tree.specs.Text.{line_text, tree_fits}
use Rattle.proof_tree.specs.declared.tree.Version.TheVariants.{Two}
use Rattle.std.specs.List.{list_all}
use Rattle.check_memory.specs.declared.node.Met.{Met}

-- the tree of a node of scope i in this box, below the horizon h, is in place and comes to this
pub record Decides (g : Game) (i : ℕ) (h : Option ℕ) (won : Bool) (t : Tree) (box : Box) : Type 0 where
  pub placed : in_place g t (drop i g.scopes) i (demands g i) box h ≡ true
  pub verdict : (read g t (drop i g.scopes) i (demands g i) box).verdict ≡ decided_as won
  pub own : (read g t (drop i g.scopes) i (demands g i) box).own ≡ None

-- the bytes are the text of the tree's lines, with so many turns, none of them open, and removals of variables alone that are
-- looked at; it fits below so many nodes and branches; and it decides each node of scope i whose box is like these values
pub record IsKnownBy (g : Game) (i : ℕ) (h : Option ℕ) (vs : List ℤ) (won : Bool) (taken depth : ℕ) (bytes : List ℕ) (t : Tree) : Type 0 where
  pub text : bytes ≡ flat_map line_text (tree_lines t)
  pub shallow : depth + depth_of t ≤ 1000
  pub turns : turns_of t ≡ taken
  pub opens : opens_of t ≡ 0
  pub fits : IsTrue (tree_fits Two t)
  pub looks : IsTrue (list_all (line_looks g i) (tree_lines t))
  pub decided : (box : Box) → IsLike g i vs box → Decides g i h won t box

abbrev pub IsKnown : Game → ℕ → Option ℕ → List ℤ → Bool → ℕ → ℕ → List ℕ → Type 0
IsKnown g i h vs won turns depth bytes = (t : Tree) × IsKnownBy g i h vs won turns depth bytes t

-- the text begins with that of a node of scope i that is known by values that look the same as those here
pub record IsMet (g : Game) (i : ℕ) (h : Option ℕ) (here : List ℤ) (text : List ℕ) (m : Met) : Type 0 where
  pub plain : IsTrue (ask_nothing g.scopes)
  pub within : m.size ≤ length text
  pub kept : List ℤ
  pub like : SeenAlike g i kept here
  pub known : IsKnown g i h kept m.won m.turns m.depth (take m.size text)
