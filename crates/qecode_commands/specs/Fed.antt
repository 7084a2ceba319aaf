-- What a checker was given of a certificate's file.
use Rattle.std.specs.Prelude.{◌≡◌, ℕ, List, length, Option}
use Rattle.qc_io.specs.Shelf.{IsFront}
use Rattle.qc_check.specs.declared.progress.Checker.{Checker}
use Rattle.qc_check.specs.Checking.{IsChecking}
use Rattle.qecode_commands.specs.Files.{IsFile}

-- its first n bytes
pub record FedTo (told : Option (List ℕ)) (n : ℕ) (c : Checker) : Type 0 where
  pub bytes : List ℕ
  pub count : length bytes ≡ n
  pub front : IsFront told bytes
  pub checking : IsChecking c bytes

-- all of its bytes
pub record IsFed (told : Option (List ℕ)) (c : Checker) : Type 0 where
  pub bytes : List ℕ
  pub file : IsFile 1073741824 told bytes
  pub checking : IsChecking c bytes
