-- The words of a command.
use Rattle.std.specs.Prelude.{ℕ, ◌&&◌, List, [], ◌∷◌, codes, Option, Some, None, if◌then◌else◌}
use Rattle.std.specs.Str.{bytes_eq}
use Rattle.qc_pessimist.specs.declared.reading.Places.{Places}
use Rattle.qecode_commands.specs.Words.{is_name, number_asked, turns_asked, places_asked, usual_turns}

-- What the words ask for: how the strategy, or the counterstrategy, of a certificate begins; at most so many allowed tuples at
-- a position; the certificate of a problem within so many turns, or that of the game at the worst ties of chosen owners.
pub data Asked : Type 0 where
  begins : List ℕ → List ℕ → Asked
  lists : List ℕ → List ℕ → ℕ → Asked
  hopes : List ℕ → ℕ → Asked
  assures : List ℕ → Places → ℕ → Asked

-- how many tuples where the words name no number
abbrev pub usual_most : ℕ
usual_most = 1000

abbrev pub most_asked : List ℕ → Option ℕ
most_asked word = number_asked 1 1000000 word

abbrev pub lists_most : List ℕ → List ℕ → Option ℕ → Option Asked
lists_most problem position None = None
lists_most problem position (Some n) = Some (lists problem position n)

abbrev pub hopes_within : List ℕ → Option Places → Option ℕ → Option Asked
hopes_within name None turns = None
hopes_within name (Some places) None = None
hopes_within name (Some places) (Some turns) = Some (hopes name turns)

abbrev pub assures_within : List ℕ → Option Places → Option ℕ → Option Asked
assures_within name None turns = None
assures_within name (Some places) None = None
assures_within name (Some places) (Some turns) = Some (assures name places turns)

-- one of the two certificates of a gap
abbrev pub gap_within : List ℕ → Option Places → List ℕ → Option ℕ → Option Asked
gap_within name places side turns =
    if bytes_eq side (codes "--hopeful") then hopes_within name places turns
    else if bytes_eq side (codes "--sure") then assures_within name places turns else None

-- the table of words, by how many there are
abbrev pub asked_by_three : List ℕ → List ℕ → List ℕ → Option Asked
asked_by_three word first second =
    if bytes_eq word (codes "first") && is_name first && is_name second then Some (begins first second)
    else if bytes_eq word (codes "allowed") && is_name first && is_name second then Some (lists first second usual_most) else None

abbrev pub asked_by_four : List ℕ → List ℕ → List ℕ → List ℕ → Option Asked
asked_by_four word first second third =
    if bytes_eq word (codes "gap") && is_name first then gap_within first (places_asked second) third (Some usual_turns) else None

abbrev pub asked_by_five : List ℕ → List ℕ → List ℕ → List ℕ → List ℕ → Option Asked
asked_by_five word first second third fourth =
    if bytes_eq word (codes "allowed") && is_name first && is_name second && bytes_eq third (codes "--most")
    then lists_most first second (most_asked fourth) else None

abbrev pub asked_by_six : List ℕ → List ℕ → List ℕ → List ℕ → List ℕ → List ℕ → Option Asked
asked_by_six word first second third fourth fifth =
    if bytes_eq word (codes "gap") && is_name first && bytes_eq fourth (codes "--turns")
    then gap_within first (places_asked second) third (turns_asked fifth) else None

abbrev pub asked_of : List (List ℕ) → Option Asked
asked_of (word ∷ first ∷ second ∷ []) = asked_by_three word first second
asked_of (word ∷ first ∷ second ∷ third ∷ []) = asked_by_four word first second third
asked_of (word ∷ first ∷ second ∷ third ∷ fourth ∷ []) = asked_by_five word first second third fourth
asked_of (word ∷ first ∷ second ∷ third ∷ fourth ∷ fifth ∷ []) = asked_by_six word first second third fourth fifth
asked_of words = None
