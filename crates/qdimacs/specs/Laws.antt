-- The laws of formulas and their texts.
use Rattle.std.specs.Prelude.{◌≡◌, ◌⊎◌, ◌↔◌, ℕ, List, IsTrue}
use Rattle.qc_model.specs.Lists.{Distinct}
use Rattle.qc_model.specs.Game.{IsWon}
use Rattle.qdimacs.specs.Formula.{Formula, is_true}
use Rattle.qdimacs.specs.Content.{order, game_of}
use Rattle.qdimacs.specs.declared.token.Token.{Token}
use Rattle.qdimacs.specs.declared.fault.QdimacsKind.{QdimacsKind}
use Rattle.qdimacs.specs.Grammar.{File, IsFile}
use Rattle.qdimacs.specs.Refusals.{States, IsRefused}

-- the game of a formula whose variables all differ is won exactly where the formula is true
abbrev pub WonWhereTrue : Type 0
WonWhereTrue = (φ : Formula) → Distinct (order φ.blocks) → IsWon (game_of φ) ↔ IsTrue (is_true φ)

-- tokens are those of one file at most
abbrev pub OneFile : Type 0
OneFile = (ts : List Token) (f g : File) → IsFile f ts → IsFile g ts → f ≡ g

-- each text states a formula, or is refused ..
abbrev pub EachText : Type 0
EachText = (text : List ℕ) → ((f : File) × States text f) ⊎ ((kind : QdimacsKind) × (at : ℕ) × IsRefused text kind at)

-- .. never both ..
abbrev pub NeverBoth : Type 0
NeverBoth = (text : List ℕ) (f : File) (kind : QdimacsKind) (at : ℕ) → States text f → IsRefused text kind at → ⊥

-- .. and for one kind, at one place
abbrev pub OneRefusal : Type 0
OneRefusal = (text : List ℕ) (j k : QdimacsKind) (a b : ℕ) → IsRefused text j a → IsRefused text k b → (j ≡ k) × (a ≡ b)
