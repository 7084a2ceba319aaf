-- Nodes that are kept aside: which lines stand wherever the box is the same.
use Rattle.std.specs.Prelude.{◌≡◌, ◌≤◌, ◌<◌, ◌*◌, ℕ, suc, false, Option, List, [], ◌∷◌, drop, length, slice_index_or, IsTrue, ℤ, pos}
use Rattle.qc_model.specs.Content.{Game}
use Rattle.qc_model.specs.Demands.{demands}
use Rattle.qc_model.specs.Domains.{Box, declared_box, values_left}
use Rattle.qc_model.specs.Game.{before}
use Rattle.qc_model.specs.Verdict.{Verdict}
use Rattle.joins.specs.Joins.{IsLong}
use Rattle.joins.specs.Sizes.{IsSized}
use Rattle.proof_tree.specs.Tree.{Tree}
use Rattle.proof_tree.specs.Pieces.{each_case, goes_at_one}
use Rattle.proof_tree.specs.Counts.{turns_of, opens_of}
use Rattle.proof_tree.specs.Diligent.{closes, Foresees}
use Rattle.proof_tree.specs.InPlace.{in_place}
use Rattle.proof_tree.specs.Incumbents.{keeps}
use Rattle.proof_tree.specs.Lines.{tree_lines}
use Rattle.proof_tree.specs.Order.{opens_last, is_joined, settled_last}
use Rattle.proof_tree.specs.Read.{read}
use Rattle.proof_tree.specs.Text.{tree_fits}
use Rattle.proof_tree.specs.declared.line.Line.{Line}
use Rattle.proof_tree.specs.declared.tree.Version.TheVariants.{Two}
use Rattle.search_parts.specs.Own.{IsOwnSized}
use Rattle.search_parts.specs.Settled.{is_vague_verdict, beats_none}

-- a box of the game at scope i: each variable from there on has its declared values, and each earlier one the value that stands
-- at its place
pub record IsFreshAt (g : Game) (i : ℕ) (vs : List ℤ) (box : Box) : Type 0 where
  pub size : length box ≡ length (declared_box g)
  pub fresh : (x : ℕ) → before g i ≤ x → values_left box x ≡ values_left (declared_box g) x
  pub fixed : (x : ℕ) → x < before g i → values_left box x ≡ slice_index_or vs x (pos 0) ∷ []

-- the tree of a node of scope i in this box, below the horizon h: it has what a certificate asks for, comes to v, leaves nothing
-- open, and takes so many turns at most
pub record IsWhole (g : Game) (i : ℕ) (h : Option ℕ) (v : Verdict) (turns : ℕ) (t : Tree) (box : Box) : Type 0 where
  pub placed : IsTrue (in_place g t (drop i g.scopes) i (demands g i) box h)
  pub verdict : (read g t (drop i g.scopes) i (demands g i) box).verdict ≡ v
  pub settled : IsTrue (settled_last g t (drop i g.scopes) i (demands g i) box)
  pub lasts : IsTrue (each_case opens_last t)
  pub ones : IsTrue (each_case goes_at_one t)
  pub apart : IsTrue (each_case is_joined t)
  pub fits : IsTrue (tree_fits Two t)
  pub few : turns_of t ≤ turns
  pub opens : opens_of t ≡ 0
  pub long : IsLong g i v
  pub sized : IsSized (suc (2 * turns_of t)) v
  pub own : IsOwnSized (suc (2 * turns_of t)) (read g t (drop i g.scopes) i (demands g i) box).own
  pub keeps : IsTrue (keeps g t (drop i g.scopes) i (demands g i) box)
  pub closed : IsTrue (closes g t (drop i g.scopes) i box)
  pub foreseen : Foresees g t (drop i g.scopes) i box h

-- the lines are those of the tree, which is that of each node of scope i whose box has these values
pub record IsAsideBy (g : Game) (i : ℕ) (h : Option ℕ) (vs : List ℤ) (v : Verdict) (turns : ℕ) (ls : List Line) (t : Tree) : Type 0 where
  pub lines : ls ≡ tree_lines t
  pub whole : (box : Box) → IsFreshAt g i vs box → IsWhole g i h v turns t box

abbrev pub IsAside : Game → ℕ → Option ℕ → List ℤ → Verdict → ℕ → List Line → Type 0
IsAside g i h vs v turns ls = (t : Tree) × IsAsideBy g i h vs v turns ls t

-- the lines that are kept for these values stand at the node of scope i in this box, where so many turns are left
pub record StandsAside (g : Game) (i : ℕ) (h : Option ℕ) (left : ℕ) (box : Box) (v : Verdict) (turns : ℕ) (ls : List Line) : Type 0 where
  pub values : List ℤ
  pub few : turns ≤ left
  pub fresh : IsFreshAt g i values box
  pub aside : IsAside g i h values v turns ls
  pub sure : is_vague_verdict beats_none v ≡ false
