-- The words of a command.
use Rattle.std.specs.Prelude.{ℕ, ◌&&◌, List, [], ◌∷◌, codes, Option, Some, None, if◌then◌else◌}
use Rattle.std.specs.Str.{bytes_eq}
use Rattle.qecode_commands.specs.Words.{is_name, turns_asked, usual_turns}

-- what the words ask for, files by their names: the problem of one is solved, or its formula decided, within so many turns; or a
-- certificate is checked against a problem
pub data Asked : Type 0 where
  solves : List ℕ → ℕ → Asked
  decides : List ℕ → ℕ → Asked
  checks : List ℕ → List ℕ → Asked

abbrev pub solves_within : List ℕ → Option ℕ → Option Asked
solves_within name None = None
solves_within name (Some turns) = Some (solves name turns)

abbrev pub decides_within : List ℕ → Option ℕ → Option Asked
decides_within name None = None
decides_within name (Some turns) = Some (decides name turns)

-- the table of words, by how many there are
abbrev pub asked_by_two : List ℕ → List ℕ → Option Asked
asked_by_two word name =
    if bytes_eq word (codes "solve") && is_name name then Some (solves name usual_turns)
    else if bytes_eq word (codes "qbf") && is_name name then Some (decides name usual_turns) else None

abbrev pub asked_by_three : List ℕ → List ℕ → List ℕ → Option Asked
asked_by_three word first second = if bytes_eq word (codes "check") && is_name first && is_name second then Some (checks first second) else None

abbrev pub asked_by_four : List ℕ → List ℕ → List ℕ → List ℕ → Option Asked
asked_by_four word name mark number =
    if bytes_eq word (codes "solve") && is_name name && bytes_eq mark (codes "--turns") then solves_within name (turns_asked number)
    else if bytes_eq word (codes "qbf") && is_name name && bytes_eq mark (codes "--turns") then decides_within name (turns_asked number) else None

abbrev pub asked_of : List (List ℕ) → Option Asked
asked_of (word ∷ first ∷ []) = asked_by_two word first
asked_of (word ∷ first ∷ second ∷ []) = asked_by_three word first second
asked_of (word ∷ first ∷ second ∷ third ∷ []) = asked_by_four word first second third
asked_of words = None
