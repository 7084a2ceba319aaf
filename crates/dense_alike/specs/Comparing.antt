-- What boxes are compared by.
use Rattle.std.specs.Prelude.{◌≡◌, ℕ, Bool, List, [], length, ℤ}
use Rattle.qc_model.specs.Content.{Game}
use Rattle.qc_model.specs.Domains.{declared_box}
use Rattle.fd_store.specs.Held.{Held}
use Rattle.dense_alike.specs.Starts.{AreStarts}
use Rattle.dense_alike.specs.Unseen.{AreUnseen}

-- the game that reads are of, where the constraints of each scope begin, from which scopes on no earlier variable is seen one by one, its declared box, and places for the values of its variables and for answers on its constraints
pub record CanCompare (g reads : Game) (starts : List ℕ) (unseen : List Bool) (declared : Held) (here : List ℤ) (holds_here holds_there : List Bool) : Type 0 where
  pub reads_are : reads ≡ g
  pub starts_are : AreStarts g starts
  pub unseen_are : AreUnseen g unseen
  pub box : declared.box ≡ declared_box g
  pub past : declared.past ≡ []
  pub places : length here ≡ length g.variables
  pub first : length holds_here ≡ length g.constraints
  pub second : length holds_there ≡ length g.constraints
