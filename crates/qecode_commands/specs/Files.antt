-- What is told of a file, what is answered where it can't be had, and what was written.
use Rattle.std.specs.Prelude.{◌≡◌, ◌≤◌, ◌<◌, ◌+◌, ℕ, List, [], ◌++◌, codes, length, Option, IfSome}
use Rattle.std.specs.Io.KnownBytes.{Appends}
use Rattle.qc_io.specs.Counts.{Rose}
use Rattle.qc_io.specs.Sink.{AppendsPrefix}
use Rattle.qecode_commands.specs.declared.status.Status.{Status}
use Rattle.qecode_commands.specs.declared.status.Status.TheVariants.{TooLong, ReadFault, WriteFault, Memory}

-- what a file holds: bytes up to the limit, those that are told
pub record IsFile (limit : ℕ) (told : Option (List ℕ)) (bytes : List ℕ) : Type 0 where
  pub same : IfSome told (λ file. bytes ≡ file)
  pub within : length bytes ≤ limit

-- a file longer than the limit: more than it was given, and a told file is longer
pub record IsLong (limit : ℕ) (name : List ℕ) (told : Option (List ℕ)) (gave : ℕ → Type 0) (text : List ℕ) : Type 0 where
  pub given : gave (limit + 1)
  pub longer : IfSome told (λ bytes. limit < length bytes)
  pub line : text ≡ codes "too long: " ++ name ++ codes "\n"

-- what is answered where a file of at most so many bytes can't be had; gave n says that the shelf's count of bytes given
-- rose by n
abbrev pub TurnsFileDown : ℕ → List ℕ → Option (List ℕ) → (ℕ → Type 0) → Status → List ℕ → Type 0
TurnsFileDown limit name told gave ReadFault text = text ≡ []
TurnsFileDown limit name told gave Memory text = text ≡ []
TurnsFileDown limit name told gave TooLong text = IsLong limit name told gave text
TurnsFileDown limit name told gave status text = ⊥

-- The text of an answer was written; at WriteFault a prefix of it, and then the sink's count of faults rose.
abbrev pub Wrote : Option (List ℕ) → Option (List ℕ) → ℕ → ℕ → Status → (Status → List ℕ → Type 0) → Type 0
Wrote old new before now WriteFault P = Rose before now × ((status : Status) × (text : List ℕ) × P status text × AppendsPrefix old new text)
Wrote old new before now status P = (now ≡ before) × ((text : List ℕ) × P status text × Appends old new text)
