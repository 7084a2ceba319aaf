-- The words of a command.
use Rattle.std.specs.Prelude.{ℕ, ℤ, nat_le, unsigned_abs, ◌&&◌, List, [], ◌∷◌, codes, Option, Some, None, if◌then◌else◌}
use Rattle.std.specs.Fmt.{signed_decimal}
use Rattle.std.specs.Str.{bytes_eq}
use Rattle.std.specs.Str.Parse.{signed_digits_value}
use Rattle.qecode_commands.specs.Words.{is_name, turns_asked, usual_turns}

-- a variable's name, and the least and the greatest value that it keeps
pub record Kept : Type 0 where
  pub name : List ℕ
  pub lo : ℤ
  pub hi : ℤ

-- What the words ask for: of the problem of a file the piece in which variables keep some values only, beside a value that was
-- reached elsewhere, within so many turns.
pub record Asked : Type 0 where
  pub problem : List ℕ
  pub keeps : List Kept
  pub reached : Option ℤ
  pub turns : ℕ

-- the number of which the word is the text, with a dash where it's below 0 and without needless zeros, if it is at most this
-- large by its size
abbrev pub value_asked : ℕ → List ℕ → Option ℤ
value_asked most word =
    if bytes_eq (signed_decimal (signed_digits_value 10 word)) word && nat_le (unsigned_abs (signed_digits_value 10 word)) most
    then Some (signed_digits_value 10 word) else None

abbrev pub kept_from : List ℕ → Option ℤ → Option ℤ → Option Kept
kept_from name None hi = None
kept_from name (Some lo) None = None
kept_from name (Some lo) (Some hi) = Some (record { name = name; lo = lo; hi = hi })

abbrev pub kept_asked : List ℕ → List ℕ → List ℕ → Option Kept
kept_asked name lo hi = kept_from name (value_asked 1000000000 lo) (value_asked 1000000000 hi)

-- a value that was reached, and a budget
pub record Tail : Type 0 where
  pub reached : Option ℤ
  pub turns : ℕ

abbrev pub within : Option ℤ → Option ℕ → Option Tail
within reached None = None
within reached (Some turns) = Some (record { reached = reached; turns = turns })

abbrev pub reached_within : Option ℤ → Option ℕ → Option Tail
reached_within None turns = None
reached_within (Some value) turns = within (Some value) turns

abbrev pub reached_asked : List ℕ → Option ℤ
reached_asked word = value_asked 1000000000000000000 word

abbrev pub tail_by_two : List ℕ → List ℕ → Option Tail
tail_by_two mark word =
    if bytes_eq mark (codes "--reached") then reached_within (reached_asked word) (Some usual_turns)
    else if bytes_eq mark (codes "--turns") then within None (turns_asked word) else None

abbrev pub tail_by_four : List ℕ → List ℕ → List ℕ → List ℕ → Option Tail
tail_by_four first value second number =
    if bytes_eq first (codes "--reached") && bytes_eq second (codes "--turns")
    then reached_within (reached_asked value) (turns_asked number) else None

-- what stands behind the keeps
abbrev pub tail_asked : List (List ℕ) → Option Tail
tail_asked [] = Some (record { reached = None; turns = usual_turns })
tail_asked (mark ∷ word ∷ []) = tail_by_two mark word
tail_asked (first ∷ value ∷ second ∷ number ∷ []) = tail_by_four first value second number
tail_asked words = None

-- without keeps
abbrev pub whole : List ℕ → Option Tail → Option Asked
whole name None = None
whole name (Some tail) = Some (record { problem = name; keeps = []; reached = tail.reached; turns = tail.turns })

-- with one keep more, before the others
abbrev pub put_before : Option Kept → Option Asked → Option Asked
put_before None asked = None
put_before (Some kept) None = None
put_before (Some kept) (Some asked) = Some (record asked { keeps = kept ∷ asked.keeps })

-- what stands behind the problem's name: keeps of four words each, and the tail
abbrev pub rest_asked : List ℕ → List (List ℕ) → Option Asked
rest_asked name (mark ∷ x ∷ lo ∷ hi ∷ more) =
    if bytes_eq mark (codes "--keep") then put_before (kept_asked x lo hi) (rest_asked name more)
    else whole name (tail_asked (mark ∷ x ∷ lo ∷ hi ∷ more))
rest_asked name words = whole name (tail_asked words)

abbrev pub asked_of : List (List ℕ) → Option Asked
asked_of (word ∷ name ∷ more) = if bytes_eq word (codes "solve") && is_name name then rest_asked name more else None
asked_of words = None
