-- Which trees a walk may read from the root on, and which lines a certificate may have.
use Rattle.std.specs.Prelude.{◌≡◌, ◌≤◌, ◌<◌, ◌^◌, ◌-◌, ⊤, true, List, [], length}
use Rattle.qc_model.specs.Content.{Game}
use Rattle.qc_model.specs.Domains.{declared_box}
use Rattle.proof_meaning.specs.Answered.{Answered}
use Rattle.proof_tree.specs.declared.line.Line.{Line}
use Rattle.proof_tree.specs.declared.tree.Outcome.{Outcome}
use Rattle.proof_tree.specs.declared.tree.Outcome.TheVariants.{True, False, Open}
use Rattle.proof_tree.specs.Counts.{depth_of, ends_of}
use Rattle.proof_tree.specs.InPlace.{root_in_place}
use Rattle.proof_tree.specs.Lines.{tree_lines}
use Rattle.proof_tree.specs.Tree.{Tree}

-- it stands in place, each scope of the opponent in it is answered, and it has no more ends than a certificate may have
pub record CanReadRoot (g : Game) (t : Tree) : Type 0 where
  pub placed : root_in_place g t ≡ true
  pub answered : Answered g t g.scopes 0 [] (declared_box g)
  pub few : ends_of t ≤ 2 ^ 30

-- turns that a count of 64 bits tells
abbrev pub IsCountable : Outcome → Type 0
IsCountable True = ⊤
IsCountable False = ⊤
IsCountable (Open n) = n < 2 ^ 64 - 1

-- the lines are those of a tree that a certificate with this outcome may have
pub record IsListed (outcome : Outcome) (lines : List Line) : Type 0 where
  pub tree : Tree
  pub is : lines ≡ tree_lines tree
  pub shallow : depth_of tree ≤ 1000
  pub few_ends : ends_of tree ≤ 2 ^ 30
  pub few_lines : length lines ≤ 2 ^ 32
  pub countable : IsCountable outcome
