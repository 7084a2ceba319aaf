-- What is answered for the allowed tuples at a position.
use Rattle.std.specs.Prelude.{◌≡◌, ◌⊎◌, ℕ, ℤ, Bool, true, false, nat_lt, List, [], ◌++◌, take, length, codes, Option, None}
use Rattle.qc_model.specs.Content.{Game}
use Rattle.qc_model.specs.Game.{moves}
use Rattle.tell_moves.specs.Lines.{lines_of}
use Rattle.tell_moves.specs.Stands.{Place, before_scope, after_all, left_over, missing_at, not_allowed_at, place_of}
use Rattle.qecode_commands.specs.declared.status.Status.{Status}
use Rattle.qecode_commands.specs.declared.status.Status.TheVariants.{Done, BadMoves, Memory}
use Rattle.qecode_commands.specs.Files.{IsFile, TurnsFileDown}
use Rattle.qecode_commands.specs.Moves.{bad_moves_at, moves_of, TurnsMovesDown}
use Rattle.qecode_commands.specs.Plays.{missing_line, not_allowed_line}

abbrev pub more_line : Bool → List ℕ
more_line true = codes "more\n"
more_line false = []

-- the first n allowed tuples of scope i after the values a, a line each, and whether there are more
abbrev pub allowed_text : Game → ℕ → List ℤ → ℕ → List ℕ
allowed_text g i a n = lines_of (take n (moves g i a)) ++ more_line (nat_lt n (length (moves g i a)))

-- what is written at this place, and what where there is none
abbrev pub ListsAt : Game → ℕ → Place → List ℕ → Type 0
ListsAt g n (before_scope i a) text = text ≡ allowed_text g i a n
ListsAt g n after_all text = text ≡ codes "nothing left to choose\n"
ListsAt g n left_over text = ⊥
ListsAt g n (missing_at i) text = ⊥
ListsAt g n (not_allowed_at i) text = ⊥

abbrev pub RefusesAt : Place → List ℕ → Type 0
RefusesAt (before_scope i a) text = ⊥
RefusesAt after_all text = ⊥
RefusesAt left_over text = text ≡ codes "too many moves\n"
RefusesAt (missing_at i) text = text ≡ missing_line i
RefusesAt (not_allowed_at i) text = text ≡ not_allowed_line i

-- what is answered at this place
abbrev pub ListsPlace : Game → ℕ → Place → Status → List ℕ → Type 0
ListsPlace g n place Done text = ListsAt g n place text
ListsPlace g n place BadMoves text = RefusesAt place text
ListsPlace g n place Memory text = text ≡ []
ListsPlace g n place status text = ⊥

-- and for the values of a position
abbrev pub ListsValues : Game → ℕ → List ℤ → Status → List ℕ → Type 0
ListsValues g n vs status text = ListsPlace g n (place_of g vs) status text

-- for the bytes of their text
abbrev pub ListsBytes : Game → ℕ → List ℕ → Status → List ℕ → Type 0
ListsBytes g n bytes status text =
    TurnsMovesDown bytes status text ⊎ ((bad_moves_at bytes ≡ None) × ListsValues g n (moves_of bytes) status text)

-- and for its file
abbrev pub ListsFile : ℕ → List ℕ → Option (List ℕ) → (ℕ → Type 0) → Game → Status → List ℕ → Type 0
ListsFile n name told gave g status text =
    TurnsFileDown 65536 name told gave status text ⊎ ((bytes : List ℕ) × IsFile 65536 told bytes × ListsBytes g n bytes status text)
