-- What a checker was given of a file.
use Rattle.std.specs.Prelude.{◌≡◌, ℕ, List, length, Option}
use Rattle.qc_io.specs.Shelf.{IsFront}
use Rattle.qecode_commands.specs.Files.{IsFile}

-- its first n bytes; what is so of the bytes that a checker was given
pub record FedTo (told : Option (List ℕ)) (n : ℕ) (IsChecking : List ℕ → Type 0) : Type 0 where
  pub bytes : List ℕ
  pub count : length bytes ≡ n
  pub front : IsFront told bytes
  pub checking : IsChecking bytes

-- all of its bytes
pub record IsFed (told : Option (List ℕ)) (IsChecking : List ℕ → Type 0) : Type 0 where
  pub bytes : List ℕ
  pub file : IsFile 1073741824 told bytes
  pub checking : IsChecking bytes
