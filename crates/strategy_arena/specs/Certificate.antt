-- The text of a certificate that is known by its lines.
use Rattle.std.specs.Prelude.{ℕ, ◌≡◌, ◌≤◌, Option, List, ◌++◌, flat_map, ℤ}
use Rattle.proof_tree.specs.declared.tree.Outcome.{Outcome}
use Rattle.proof_tree.specs.declared.tree.Version.TheVariants.{Two}
use Rattle.proof_tree.specs.declared.line.Line.{Line}
use Rattle.proof_tree.specs.Tree.{Tree}
use Rattle.proof_tree.specs.Counts.{depth_of}
use Rattle.proof_tree.specs.Lines.{tree_lines}
use Rattle.proof_tree.specs.Text.{line_text, version_text, outcome_text}
pub use Rattle.proof_text.specs.LineRanges.{line_fits}

-- the second version's head, and the lines; where they are those of a tree, this is the certificate's text
abbrev pub text_of_lines : Outcome → Option ℤ → List Line → List ℕ
text_of_lines outcome optimum lines = version_text Two ++ outcome_text outcome optimum ++ flat_map line_text lines

-- the lines are those of one tree, nested at most 1,000 deep
pub record IsOneTree (lines : List Line) : Type 0 where
  pub tree : Tree
  pub is_lines : lines ≡ tree_lines tree
  pub shallow : depth_of tree ≤ 1000
