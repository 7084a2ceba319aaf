-- What is read at the front of bytes.
use Rattle.std.specs.Prelude.{ℕ, ◌≡◌, List, ◌++◌, length}
use Rattle.best_text.specs.declared.head.Head.{Head}
use Rattle.best_text.specs.declared.head.Head.TheVariants.{Whole, Bad}
use Rattle.best_text.specs.Text.{head_text, HeadFits, IsHead}
use Rattle.best_text.specs.Stuck.{IsPlace}
use Rattle.std.specs.Prelude.{ℤ}

-- the bytes begin with this head, of so many bytes
pub record BeginsWithHead (bytes : List ℕ) (v : ℤ) (n size : ℕ) : Type 0 where
  pub fits : HeadFits v n
  pub rest : List ℕ
  pub whole : bytes ≡ head_text v n ++ rest
  pub size_is : size ≡ length (head_text v n)

abbrev pub Says : List ℕ → Head → Type 0
Says bytes (Whole v n size) = BeginsWithHead bytes v n size
Says bytes (Bad at) = IsPlace IsHead at bytes
