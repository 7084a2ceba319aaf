-- What is kept of named nodes.
use Rattle.std.specs.Prelude.{List}
use Rattle.qc_model.specs.Content.{Game}
use Rattle.qc_model.specs.Domains.{Box}

-- the game, and the boxes in the order in which they came
pub record Kept : Type 0 where
  pub game : Game
  pub boxes : List Box
