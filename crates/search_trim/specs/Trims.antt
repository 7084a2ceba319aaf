-- Steps that do in place of others that end with an empty domain.
use Rattle.std.specs.Prelude.{◌≡◌, ℕ, Bool, true, false, Option, List}
use Rattle.std.specs.List.{list_all}
use Rattle.qc_model.specs.Content.{Game}
use Rattle.qc_model.specs.Domains.{Box, has_empty}
use Rattle.proof_tree.specs.declared.tree.Step.{Step}
use Rattle.proof_tree.specs.Place.{Tracked}
use Rattle.proof_tree.specs.Steps.{after_steps, are_legal, step_marks}

-- from this box the fewer steps are legal, end with an empty domain, and have the marks of all
pub record IsTrimmed (g : Game) (i stop : ℕ) (t : Option Tracked) (steps less : List Step) (box : Box) : Type 0 where
  pub legal : are_legal g i stop t less box ≡ true
  pub empties : has_empty (after_steps less box) ≡ true
  pub marks : step_marks t less box ≡ step_marks t steps box

-- they are so from each box without an empty domain from which the steps are legal and end with one; and they are of the steps
pub record Trims (g : Game) (steps less : List Step) : Type 0 where
  pub right : (i stop : ℕ) (t : Option Tracked) (box : Box) → are_legal g i stop t steps box ≡ true → has_empty box ≡ false → has_empty (after_steps steps box) ≡ true →
      IsTrimmed g i stop t steps less box
  pub tests : (p : Step → Bool) → list_all p steps ≡ true → list_all p less ≡ true
