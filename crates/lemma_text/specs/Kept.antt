-- What a reader keeps of a piece, byte by byte.
use Rattle.std.specs.Prelude.{◌<◌, ◌≡◌, true, length, Option, Some, None}
use Rattle.lemma_text.specs.declared.parts.Field.{Field}
use Rattle.lemma_text.specs.declared.numeral.NumeralNext.{NumeralNext}
use Rattle.lemma_text.specs.declared.numeral.NumeralNext.TheVariants.{More as MoreDigits, Done, Wrong as WrongDigit}
use Rattle.lemma_text.specs.declared.part.Part.{Part}
use Rattle.lemma_text.specs.declared.part.Part.TheVariants.{Word, Outcome, Line, Begun, Lettered, Reached, Number}
use Rattle.lemma_text.specs.declared.part.PartNext.{PartNext}
use Rattle.lemma_text.specs.declared.part.PartNext.TheVariants.{More, Whole, Wrong}
use Rattle.lemma_text.specs.Numerals.{Reading, further, ended, bad, value_fits, FitsNumeral}
use Rattle.lemma_text.specs.States.{State, word, outcome, due, begun, lettered, reached, Next, more, whole, wrong, word_text}
use Rattle.lemma_text.specs.Asked.{asks, number_of}

-- how a number goes on
abbrev pub reading_of : NumeralNext → Reading
reading_of (MoreDigits n) = further n
reading_of (Done z) = ended z
reading_of WrongDigit = bad

abbrev pub FitsReading : Field → NumeralNext → Type 0
FitsReading g (MoreDigits n) = FitsNumeral g n
FitsReading g (Done z) = value_fits g z ≡ true
FitsReading g WrongDigit = Unit {0}

-- what is read of a piece
abbrev pub state_of : Part → State
state_of (Word w read) = word w read
state_of Outcome = outcome
state_of (Line d) = due d
state_of (Begun k) = begun k
state_of (Lettered f) = lettered f
state_of Reached = reached
state_of (Number s n) = number_of s n

abbrev pub FitsPart : Part → Type 0
FitsPart (Word w read) = read < length (word_text w)
FitsPart Outcome = Unit {0}
FitsPart (Line d) = Unit {0}
FitsPart (Begun k) = Unit {0}
FitsPart (Lettered f) = Unit {0}
FitsPart Reached = Unit {0}
FitsPart (Number s n) = FitsNumeral (asks s).field n

-- how it goes on
abbrev pub next_of : PartNext → Next
next_of (More part) = more (state_of part)
next_of (Whole item) = whole item
next_of Wrong = wrong

abbrev pub FitsNext : PartNext → Type 0
FitsNext (More part) = FitsPart part
FitsNext (Whole item) = Unit {0}
FitsNext Wrong = Unit {0}

-- the same of a reader, which keeps nothing after a fault
abbrev pub kept_state : Option Part → Option State
kept_state None = None
kept_state (Some part) = Some (state_of part)

abbrev pub FitsKept : Option Part → Type 0
FitsKept None = Unit {0}
FitsKept (Some part) = FitsPart part
