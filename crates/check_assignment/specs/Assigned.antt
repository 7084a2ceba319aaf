-- What a clause sees of an assignment.
use Rattle.std.specs.Prelude.{List, ℤ}
use Rattle.qc_model.specs.Content.{Game}

-- the value of each variable of the game
pub record Assigned : Type 0 where
  pub game : Game
  pub items : List ℤ
