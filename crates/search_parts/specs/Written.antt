-- The lines that a search has written: those of something that it made.
use Rattle.std.specs.Prelude.{Bool, false, ◌≡◌, ℕ, Option, List, ◌++◌, map, ℤ}
use Rattle.qc_model.specs.declared.problem.Condition.{Condition}
use Rattle.qc_model.specs.declared.problem.Scope.{Scope}
use Rattle.qc_model.specs.Content.{Game}
use Rattle.qc_model.specs.Domains.{Values, Box}
use Rattle.qc_model.specs.Verdict.{Verdict, Seen}
use Rattle.proof_tree.specs.Tree.{Tree, Ending, Branches}
use Rattle.proof_tree.specs.declared.line.Line.{Line}
use Rattle.proof_tree.specs.Lines.{step_line, tree_lines, ending_lines, branches_lines}
use Rattle.search_parts.specs.Made.{NodeMade, EndingMade, PartMade, BoundedMade, CasesMade}
use Rattle.proof_tree.specs.declared.tree.Step.{Step}

pub record NodeWritten (cuts : Bool) (above : ℤ → Bool) (g : Game) (later : List Scope) (i : ℕ) (d : List Condition) (box : Box) (h : Option ℕ) (v : Verdict) (had left : ℕ) (old new : List Line) : Type 0 where
  pub tree : Tree
  pub lines : new ≡ old ++ tree_lines tree
  pub made : NodeMade cuts above g later i d box h v had left tree

pub record EndingWritten (cuts : Bool) (above : ℤ → Bool) (g : Game) (later : List Scope) (i : ℕ) (d : List Condition) (box : Box) (h : Option ℕ) (before seen : List Seen) (had left : ℕ) (old new : List Line) : Type 0 where
  pub ending : Ending
  pub lines : new ≡ old ++ ending_lines ending
  pub made : EndingMade cuts above g later i d box h before seen had left ending

pub record PartWritten (cuts : Bool) (above : ℤ → Bool) (g : Game) (later : List Scope) (i : ℕ) (d : List Condition) (box : Box) (h : Option ℕ) (before : List Seen) (ms : List ℤ) (seen : List Seen) (had left : ℕ) (old new : List Line) : Type 0 where
  pub steps : List Step
  pub ending : Ending
  pub lines : new ≡ old ++ (map step_line steps ++ ending_lines ending)
  pub made : PartMade cuts above g later i d box h before ms seen had left steps ending

pub record BoundedWritten (cuts : Bool) (above : ℤ → Bool) (g : Game) (later : List Scope) (i : ℕ) (d : List Condition) (box : Box) (h : Option ℕ) (before : List Seen) (ms : List ℤ) (seen : List Seen) (had left : ℕ) (old new : List Line) : Type 0 where
  pub steps : List Step
  pub ending : Ending
  pub lines : new ≡ old ++ (map step_line steps ++ ending_lines ending)
  pub made : BoundedMade cuts above g later i d box h before ms seen had left steps ending

pub record CasesWritten (cuts : Bool) (above : ℤ → Bool) (g : Game) (later : List Scope) (i : ℕ) (d : List Condition) (box : Box) (h : Option ℕ) (x : ℕ) (vs : Values) (before seen : List Seen) (had left : ℕ) (old new : List Line) : Type 0 where
  pub cases : Branches
  pub lines : new ≡ old ++ branches_lines cases
  pub made : CasesMade cuts above g later i d box h x vs false before seen had left cases
