-- The words of a command.
use Rattle.std.specs.Prelude.{◌==◌, ◌+◌, ◌-◌, ◌*◌, ℕ, nat_le, length, Bool, false, not, ◌&&◌, List, [], ◌∷◌, codes, Option, Some, None, if◌then◌else◌}
use Rattle.std.specs.Str.{bytes_eq}
use Rattle.qc_pessimist.specs.declared.reading.Places.{Places}
use Rattle.qc_pessimist.specs.declared.reading.Places.TheVariants.{One, All}

-- what the words ask for: files by their names, and a budget of turns; a problem is played against what a certificate
-- shows; a formula is decided, or rewritten as a problem; the problem made from a number is solved, or shown; where chosen owners meet the worst ties a problem is solved, or rewritten, or
-- what it comes to is compared with what it comes to otherwise
pub data Asked : Type 0 where
  solves : List ℕ → ℕ → Asked
  checks : List ℕ → List ℕ → Asked
  plays : List ℕ → List ℕ → List ℕ → Asked
  prints : List ℕ → Asked
  decides : List ℕ → ℕ → Asked
  rewrites : List ℕ → Asked
  makes : ℕ → Asked
  shows : ℕ → Asked
  opposes : List ℕ → Places → ℕ → Asked
  restates : List ℕ → Places → Asked
  compares : List ℕ → Places → Asked

-- a word that names a file: it isn't empty and doesn't begin with a dash
abbrev pub is_name : List ℕ → Bool
is_name [] = false
is_name (b ∷ bs) = not (b == 45)

abbrev pub is_digit : ℕ → Bool
is_digit b = nat_le 48 b && nat_le b 57

-- the number that the digits write when they follow those of n
abbrev pub digits_after : ℕ → List ℕ → Option ℕ
digits_after n [] = Some n
digits_after n (b ∷ bs) = if is_digit b then digits_after (n * 10 + (b - 48)) bs else None

-- eight digits at most, of which the first isn't 0
abbrev pub is_short_numeral : List ℕ → Bool
is_short_numeral [] = false
is_short_numeral (b ∷ bs) = nat_le 49 b && nat_le (length (b ∷ bs)) 8

-- the number, where it is from low to high
abbrev pub within : ℕ → ℕ → Option ℕ → Option ℕ
within low high None = None
within low high (Some n) = if nat_le low n && nat_le n high then Some n else None

-- the number from low to high that a word writes: in digits, without a sign and without a leading zero
abbrev pub number_asked : ℕ → ℕ → List ℕ → Option ℕ
number_asked low high word = if is_short_numeral word then within low high (digits_after 0 word) else None

-- a budget is from 1 to 10,000,000
abbrev pub turns_asked : List ℕ → Option ℕ
turns_asked word = number_asked 1 10000000 word

-- a problem is made from a number from 0 to 1,000,000
abbrev pub made_from : List ℕ → Option ℕ
made_from word = if bytes_eq word (codes "0") then Some 0 else number_asked 1 1000000 word

-- the scope of that number, counted from 1
abbrev pub scope_place : Option ℕ → Option Places
scope_place None = None
scope_place (Some k) = Some (One (record { 0 = k - 1 }))

-- the owners that meet the worst ties: that of one scope, or all
abbrev pub places_asked : List ℕ → Option Places
places_asked word = if bytes_eq word (codes "all") then Some All else scope_place (number_asked 1 64 word)

abbrev pub solves_within : List ℕ → Option ℕ → Option Asked
solves_within name None = None
solves_within name (Some turns) = Some (solves name turns)

abbrev pub decides_within : List ℕ → Option ℕ → Option Asked
decides_within name None = None
decides_within name (Some turns) = Some (decides name turns)

abbrev pub makes_from : Option ℕ → Option Asked
makes_from None = None
makes_from (Some n) = Some (makes n)

abbrev pub shows_from : Option ℕ → Option Asked
shows_from None = None
shows_from (Some n) = Some (shows n)

abbrev pub opposes_within : List ℕ → Option Places → Option ℕ → Option Asked
opposes_within name None turns = None
opposes_within name (Some places) None = None
opposes_within name (Some places) (Some turns) = Some (opposes name places turns)

abbrev pub restates_at : List ℕ → Option Places → Option Asked
restates_at name None = None
restates_at name (Some places) = Some (restates name places)

abbrev pub compares_at : List ℕ → Option Places → Option Asked
compares_at name None = None
compares_at name (Some places) = Some (compares name places)

-- the turns where the words name none
abbrev pub usual_turns : ℕ
usual_turns = 1000000

-- the table of words, by how many there are
abbrev pub asked_by_two : List ℕ → List ℕ → Option Asked
asked_by_two word name =
    if bytes_eq word (codes "solve") && is_name name then Some (solves name usual_turns)
    else if bytes_eq word (codes "print") && is_name name then Some (prints name)
    else if bytes_eq word (codes "qbf") && is_name name then Some (decides name usual_turns)
    else if bytes_eq word (codes "generate") then makes_from (made_from name) else None

abbrev pub asked_by_three : List ℕ → List ℕ → List ℕ → Option Asked
asked_by_three word first second =
    if bytes_eq word (codes "check") && is_name first && is_name second then Some (checks first second)
    else if bytes_eq word (codes "qbf") && is_name first && bytes_eq second (codes "--text") then Some (rewrites first)
    else if bytes_eq word (codes "generate") && bytes_eq second (codes "--text") then shows_from (made_from first)
    else if bytes_eq word (codes "worst") && is_name first then opposes_within first (places_asked second) (Some usual_turns) else None

abbrev pub asked_by_four : List ℕ → List ℕ → List ℕ → List ℕ → Option Asked
asked_by_four word first second third =
    if bytes_eq word (codes "play") && is_name first && is_name second && is_name third then Some (plays first second third)
    else if bytes_eq word (codes "solve") && is_name first && bytes_eq second (codes "--turns") then solves_within first (turns_asked third)
    else if bytes_eq word (codes "qbf") && is_name first && bytes_eq second (codes "--turns") then decides_within first (turns_asked third)
    else if bytes_eq word (codes "worst") && is_name first && bytes_eq third (codes "--text") then restates_at first (places_asked second)
    else if bytes_eq word (codes "worst") && is_name first && bytes_eq third (codes "--gap") then compares_at first (places_asked second) else None

abbrev pub asked_by_five : List ℕ → List ℕ → List ℕ → List ℕ → List ℕ → Option Asked
asked_by_five word first second third fourth =
    if bytes_eq word (codes "worst") && is_name first && bytes_eq third (codes "--turns")
    then opposes_within first (places_asked second) (turns_asked fourth) else None

abbrev pub asked_of : List (List ℕ) → Option Asked
asked_of (word ∷ first ∷ []) = asked_by_two word first
asked_of (word ∷ first ∷ second ∷ []) = asked_by_three word first second
asked_of (word ∷ first ∷ second ∷ third ∷ []) = asked_by_four word first second third
asked_of (word ∷ first ∷ second ∷ third ∷ fourth ∷ []) = asked_by_five word first second third fourth
asked_of words = None
