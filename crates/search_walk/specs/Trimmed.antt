-- The lines of steps of which some may be left out.
use Rattle.std.specs.Prelude.{◌≡◌, List, ◌++◌, map}
use Rattle.qc_model.specs.Content.{Game}
use Rattle.proof_tree.specs.Lines.{step_line}
use Rattle.proof_tree.specs.declared.line.Line.{Line}
use Rattle.proof_tree.specs.declared.tree.Step.{Step}
use Rattle.search_trim.specs.Trims.{Trims}

-- the lines appended are those of the steps without some on which the empty domain that they end with doesn't depend
pub record TrimmedPut (g : Game) (steps : List Step) (old new : List Line) : Type 0 where
  pub less : List Step
  pub trims : Trims g steps less
  pub lines : new ≡ old ++ map step_line less
