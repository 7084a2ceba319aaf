-- What the functions inside give.
use Rattle.std.specs.Prelude.{ℕ, Bool, false, List, [], ◌∷◌, ℤ, Option, Some, None}
use Rattle.qc_tokens.specs.declared.fault.TokenError.{TokenError}
use Rattle.qc_tokens.specs.declared.fault.TokenError.TheVariants.{BadByte, BadNumber}
use Rattle.qc_tokens.specs.Tokens.{begins_number, number_of}

-- a run begins as a number does
abbrev pub is_numeral : List ℕ → Bool
is_numeral [] = false
is_numeral (b ∷ bs) = begins_number b bs

-- the number of a run
abbrev pub value_of_run : List ℕ → Option ℤ
value_of_run [] = None
value_of_run (b ∷ bs) = number_of b bs

-- why a text is refused that has a bad number at this place: a bad byte goes before it
abbrev pub fault_of : Option ℕ → ℕ → TokenError
fault_of None at = BadNumber at
fault_of (Some other) at = BadByte other
