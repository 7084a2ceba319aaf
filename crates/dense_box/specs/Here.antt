-- Places of a certificate at a scope.
use Rattle.std.specs.Prelude.{◌≡◌, ℕ, drop}
use Rattle.qc_model.specs.Content.{Game}
use Rattle.qc_model.specs.Demands.{demands}
use Rattle.qc_model.specs.Domains.{Box}
use Rattle.dense_tree.specs.Place.{Setting, Place}

-- the place is at scope i of the game, with this box
pub record IsHere (g : Game) (i : ℕ) (box : Box) (s : Setting) (p : Place) : Type 0 where
  pub game : s.game ≡ g
  pub number : p.number ≡ i
  pub later : p.later ≡ drop i g.scopes
  pub list : p.list ≡ demands g i
  pub left : p.box ≡ box
