-- Numbers, as far as they are read.
use Rattle.std.specs.Prelude.{ℕ, zero, suc, ◌+◌, ◌-◌, ◌*◌, ◌≤◌, ◌≡◌, nat_le, nat_eq, Bool, true, false, ◌&&◌, ◌||◌, cond, List, [], ◌∷◌, ℤ, pos, negsuc, unsigned_abs}
use Rattle.std.specs.Fmt.{decimal}
use Rattle.lemma_text.specs.declared.parts.Field.{Field}
use Rattle.lemma_text.specs.declared.parts.Field.TheVariants.{Variable, Constraint, Named, Scope, Node, Turns, Value, Total}
use Rattle.lemma_text.specs.declared.parts.Numeral.{Numeral}
use Rattle.lemma_text.specs.declared.parts.Numeral.TheVariants.{Start, Minus, Zero, Digits}

-- how far a number goes from 0; one without a sign goes from 1
abbrev pub most : Field → ℕ
most Variable = 500
most Constraint = 20000
most Named = 4294967296
most Scope = 65
most Node = 1073741824
most Turns = 10000000
most Value = 1000000000
most Total = 4611686018427387904

abbrev pub is_signed : Field → Bool
is_signed Variable = false
is_signed Constraint = false
is_signed Named = false
is_signed Scope = false
is_signed Node = false
is_signed Turns = false
is_signed Value = true
is_signed Total = true

abbrev pub is_counted : ℕ → ℤ → Bool
is_counted n (pos zero) = false
is_counted n (pos (suc k)) = nat_le (suc k) n
is_counted n (negsuc k) = false

abbrev pub value_fits : Field → ℤ → Bool
value_fits f z = cond (is_signed f) (nat_le (unsigned_abs z) (most f)) (is_counted (most f) z)

abbrev pub signed_of : Bool → ℕ → ℤ
signed_of false n = pos n
signed_of true zero = pos zero
signed_of true (suc n) = negsuc n

-- a number goes on with a byte, or ends before it, or does neither
pub data Reading : Type 0 where
  further : Numeral → Reading
  ended : ℤ → Reading
  bad : Reading

abbrev pub finished : Numeral → Reading
finished Start = bad
finished Minus = bad
finished Zero = ended (pos zero)
finished (Digits negative v) = ended (signed_of negative v)

abbrev pub first_digit : Bool → ℕ → Reading
first_digit negative b = cond (nat_le 49 b && nat_le b 57) (further (Digits negative (b - 48))) bad

abbrev pub next_digit : Field → Bool → ℕ → ℕ → Reading
next_digit f negative v b = cond (nat_le 48 b && nat_le b 57 && nat_le (10 * v + (b - 48)) (most f)) (further (Digits negative (10 * v + (b - 48)))) bad

abbrev pub first_sign : ℕ → Reading
first_sign b = cond (nat_eq b 45) (further Minus) (cond (nat_eq b 48) (further Zero) (first_digit false b))

abbrev pub continued : Field → Numeral → ℕ → Reading
continued f Start b = cond (is_signed f) (first_sign b) (first_digit false b)
continued f Minus b = first_digit true b
continued f Zero b = bad
continued f (Digits negative v) b = next_digit f negative v b

-- a space or the end of a line ends a number
abbrev pub reading : Field → Numeral → ℕ → Reading
reading f n b = cond (nat_eq b 32 || nat_eq b 10) (finished n) (continued f n b)

-- the bytes of it so far
abbrev pub numeral_text : Numeral → List ℕ
numeral_text Start = []
numeral_text Minus = 45 ∷ []
numeral_text Zero = 48 ∷ []
numeral_text (Digits false v) = decimal v
numeral_text (Digits true v) = 45 ∷ decimal v

-- only a number with a sign has one, or is 0
abbrev pub IsSigned : Bool → Field → Type 0
IsSigned true f = is_signed f ≡ true
IsSigned false f = Unit {0}

abbrev pub FitsNumeral : Field → Numeral → Type 0
FitsNumeral f Start = Unit {0}
FitsNumeral f Minus = is_signed f ≡ true
FitsNumeral f Zero = is_signed f ≡ true
FitsNumeral f (Digits negative v) = IsSigned negative f × (1 ≤ v) × (v ≤ most f)
