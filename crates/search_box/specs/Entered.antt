-- The place in a game: which variables have one value left.
use Rattle.std.specs.Prelude.{◌≡◌, ◌≤◌, ℕ, suc, take, IsTrue, IsFalse}
use Rattle.std.specs.List.{list_all}
use Rattle.qc_model.specs.Content.{Game}
use Rattle.qc_model.specs.Domains.{has_empty, is_single}
use Rattle.qc_model.specs.Game.{before}
use Rattle.proof_tree.specs.Place.{position, is_fixed_to}
use Rattle.search_box.specs.Boxed.{Boxed}

-- at scope i of this game, or at the goal: no domain is empty, each variable before it has one value left, and these values
-- stand in the places of their variables
pub record IsEntered (g : Game) (i : ℕ) (b : Boxed) : Type 0 where
  pub game : b.game ≡ g
  pub full : IsFalse (has_empty b.store.box)
  pub fixed : IsTrue (list_all is_single (take (before g i) b.store.box))
  pub stand : take (before g i) b.values ≡ position g i b.store.box

-- at scope i, where each of its variables before x has one value left
pub record IsWithin (g : Game) (i x : ℕ) (b : Boxed) : Type 0 where
  pub here : IsEntered g i b
  pub from : before g i ≤ x
  pub upto : x ≤ before g (suc i)
  pub fixed : IsTrue (is_fixed_to g i x b.store.box)
