-- What excludes what.
use Rattle.std.specs.Prelude.{ℕ, List, ℤ}
use Rattle.best_text.specs.Text.{IsBestText}
use Rattle.best_judge.specs.Proof.{IsFaultOfBest}

-- bytes that are the text of a value and of two lists have no place at which they stop being one
abbrev pub NeverBoth : Type 0
NeverBoth = (bytes : List ℕ) (v : ℤ) (first second : List ℕ) (place : ℕ) → IsBestText bytes v first second → IsFaultOfBest place bytes → ⊥
