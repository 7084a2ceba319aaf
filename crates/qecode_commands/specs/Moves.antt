-- The moves of a play: a text of numbers, with what may stand between the tokens of a problem's text.
use Rattle.std.specs.Prelude.{◌≡◌, ℕ, ℤ, List, [], ◌∷◌, ◌++◌, codes, decimal, Option, Some, None, ⊤}
use Rattle.std.specs.Option.{option_or}
use Rattle.qc_tokens.specs.declared.token.Token.{Token}
use Rattle.qc_tokens.specs.declared.token.Sort.{Sort}
use Rattle.qc_tokens.specs.declared.token.Sort.TheVariants.{Word, Number, Sign}
use Rattle.qc_tokens.specs.Tokens.{tokens_of, first_bad_byte, first_bad_number}
use Rattle.qecode_commands.specs.declared.status.Status.{Status}
use Rattle.qecode_commands.specs.declared.status.Status.TheVariants.{BadMoves, Memory}
use Rattle.qecode_commands.specs.declared.moves.NoMoves.{NoMoves}
use Rattle.qecode_commands.specs.declared.moves.NoMoves.TheVariants.{Bad, Memory as Want}

-- a number is put before the others
abbrev pub with_number : Sort → List ℤ → List ℤ
with_number Word later = later
with_number (Number z) later = z ∷ later
with_number (Sign b) later = later

-- the numbers among the tokens
abbrev pub numbers_of : List Token → List ℤ
numbers_of [] = []
numbers_of (t ∷ ts) = with_number t.sort (numbers_of ts)

-- a token at this place is no number, or else one of the later ones
abbrev pub other_at : ℕ → Sort → Option ℕ → Option ℕ
other_at at Word later = Some at
other_at at (Number z) later = later
other_at at (Sign b) later = Some at

-- the place of the first token that is no number
abbrev pub first_other : List Token → Option ℕ
first_other [] = None
first_other (t ∷ ts) = other_at t.start t.sort (first_other ts)

-- The place at which a text is no moves: that of its first bad byte; without one that of its first bad number, and without
-- that, that of its first token that is no number.
abbrev pub bad_moves_at : List ℕ → Option ℕ
bad_moves_at bytes = option_or (first_bad_byte bytes) (option_or (first_bad_number bytes) (first_other (tokens_of bytes)))

-- the moves of a text that has no such place
abbrev pub moves_of : List ℕ → List ℤ
moves_of bytes = numbers_of (tokens_of bytes)

-- why tokens are no moves, and why a text is none
abbrev pub ExplainsOther : List Token → NoMoves → Type 0
ExplainsOther ts (Bad at) = first_other ts ≡ Some at
ExplainsOther ts (Want e) = ⊤

abbrev pub ExplainsMoves : List ℕ → NoMoves → Type 0
ExplainsMoves bytes (Bad at) = bad_moves_at bytes ≡ Some at
ExplainsMoves bytes (Want e) = ⊤

abbrev pub bad_moves_line : ℕ → List ℕ
bad_moves_line at = codes "bad moves at " ++ decimal at ++ codes "\n"

-- what is answered for a fault
abbrev pub TurnsMovesFaultDown : NoMoves → Status → List ℕ → Type 0
TurnsMovesFaultDown (Bad at) status text = (status ≡ BadMoves) × (text ≡ bad_moves_line at)
TurnsMovesFaultDown (Want e) status text = (status ≡ Memory) × (text ≡ [])

-- the text is no moves, and the line tells the place
pub record IsNoMoves (bytes text : List ℕ) : Type 0 where
  pub at : ℕ
  pub is : bad_moves_at bytes ≡ Some at
  pub line : text ≡ bad_moves_line at

-- what is answered for a text that is no moves
abbrev pub TurnsMovesDown : List ℕ → Status → List ℕ → Type 0
TurnsMovesDown bytes BadMoves text = IsNoMoves bytes text
TurnsMovesDown bytes Memory text = text ≡ []
TurnsMovesDown bytes status text = ⊥
