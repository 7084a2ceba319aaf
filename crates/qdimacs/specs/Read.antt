-- What reading a text gives.
use Rattle.std.specs.Prelude.{◌≡◌, ◌↔◌, ℕ, List, IsTrue}
use Rattle.qc_model.specs.Content.{Game}
use Rattle.qc_model.specs.Game.{IsWon}
use Rattle.qdimacs.specs.Grammar.{File}
use Rattle.qdimacs.specs.Formula.{is_true}
use Rattle.qdimacs.specs.Content.{game_of}
use Rattle.qdimacs.specs.Refusals.{States, formula_of}

-- the text states a formula and isn't refused; the problem is the formula's game, and is won exactly where the formula is true
pub record IsProblemOf (text : List ℕ) (g : Game) : Type 0 where
  pub file : File
  pub states : States text file
  pub content : g ≡ game_of (formula_of file)
  pub meaning : IsWon g ↔ IsTrue (is_true (formula_of file))
