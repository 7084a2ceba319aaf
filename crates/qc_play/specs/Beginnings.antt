-- Which parts of a tree lines begin with, and whether a walk may read them.
use Rattle.std.specs.Prelude.{◌≡◌, ℕ, Option, List, ◌∷◌, ◌++◌, map, ℤ}
use Rattle.qc_model.specs.Content.{Game}
use Rattle.qc_model.specs.Domains.{Box, Values}
use Rattle.proof_tree.specs.declared.line.Line.{Line}
use Rattle.proof_tree.specs.declared.line.Line.TheVariants.{Dot}
use Rattle.proof_tree.specs.declared.tree.Step.{Step}
use Rattle.proof_tree.specs.Lines.{step_line, tree_lines, ending_lines, branches_lines, case_lines}
use Rattle.proof_tree.specs.Tree.{Tree, Ending, Branches, piece, Case}
use Rattle.qc_play.specs.Walk.{CanReadNode, CanReadPart, CanReadEnd, CanReadBranches, CanReadCase}

-- these are the lines of a part, of an end, of the cases of a branch with the line that ends it, or of a case, and the rest
abbrev pub ArePart : List Line → List Step → Ending → List Line → Type 0
ArePart lines steps e rest = lines ≡ map step_line steps ++ (ending_lines e ++ rest)

abbrev pub AreCases : List Line → Branches → List Line → Type 0
AreCases lines bs rest = lines ≡ branches_lines bs ++ Dot ∷ rest

-- the first of a branch's cases begins with these lines, after the one that says the last value that it covers
pub record IsNextCase (upto : Option ℤ) (lines : List Line) (bs : Branches) (rest : List Line) : Type 0 where
  pub first : Case
  pub later : Branches
  pub is : bs ≡ piece upto first later
  pub stands : lines ≡ case_lines first ++ (branches_lines later ++ Dot ∷ rest)

-- the lines begin with those of such a part, which may be read
pub record BeginsNode (g : Game) (lines : List Line) (i : ℕ) (box : Box) : Type 0 where
  pub tree : Tree
  pub rest : List Line
  pub is : lines ≡ tree_lines tree ++ rest
  pub reads : CanReadNode g tree i box

pub record BeginsPart (g : Game) (lines : List Line) (i : ℕ) (box : Box) : Type 0 where
  pub steps : List Step
  pub ending : Ending
  pub rest : List Line
  pub is : ArePart lines steps ending rest
  pub reads : CanReadPart g steps ending i box

pub record BeginsEnd (g : Game) (lines : List Line) (i : ℕ) (box : Box) : Type 0 where
  pub ending : Ending
  pub rest : List Line
  pub is : lines ≡ ending_lines ending ++ rest
  pub reads : CanReadEnd g ending i box

pub record BeginsCases (g : Game) (lines : List Line) (x : ℕ) (vs : Values) (i : ℕ) (box : Box) : Type 0 where
  pub cases : Branches
  pub rest : List Line
  pub is : AreCases lines cases rest
  pub reads : CanReadBranches g cases x vs i box

pub record BeginsCase (g : Game) (lines : List Line) (i : ℕ) (box : Box) : Type 0 where
  pub case : Case
  pub rest : List Line
  pub is : lines ≡ case_lines case ++ rest
  pub reads : CanReadCase g case i box
