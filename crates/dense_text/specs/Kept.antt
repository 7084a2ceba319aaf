-- What a reader keeps, as the states that it stands for.
use Rattle.std.specs.Prelude.{ℕ, ◌<◌, length, Option, Some, None}
use Rattle.lemma_text.specs.Numerals.{FitsNumeral}
use Rattle.dense_text.specs.declared.part.Part.{Part}
use Rattle.dense_text.specs.declared.part.Part.TheVariants.{Word, Outcome, Won, Line, Lettered, Number}
use Rattle.dense_text.specs.declared.part.PartNext.{PartNext}
use Rattle.dense_text.specs.declared.part.PartNext.TheVariants.{More, Whole, Wrong}
use Rattle.dense_text.specs.States.{State, word, outcome, won, due, lettered, After, more, whole, wrong, word_text}
use Rattle.dense_text.specs.Asked.{asks, number_of}

-- what is read of a piece
abbrev pub state_of : Part → State
state_of (Word w read) = word w read
state_of Outcome = outcome
state_of Won = won
state_of (Line d) = due d
state_of (Lettered f) = lettered f
state_of (Number s n) = number_of s n

abbrev pub FitsPart : Part → Type 0
FitsPart (Word w read) = read < length (word_text w)
FitsPart Outcome = Unit {0}
FitsPart Won = Unit {0}
FitsPart (Line d) = Unit {0}
FitsPart (Lettered f) = Unit {0}
FitsPart (Number s n) = FitsNumeral (asks s).field n

-- how it goes on
abbrev pub after_of : PartNext → After
after_of (More part) = more (state_of part)
after_of (Whole piece) = whole piece
after_of Wrong = wrong

abbrev pub FitsNext : PartNext → Type 0
FitsNext (More part) = FitsPart part
FitsNext (Whole piece) = Unit {0}
FitsNext Wrong = Unit {0}

-- so many branches are open, and this is read of a piece
pub record Held : Type 0 where
  pub branches : ℕ
  pub state : State

abbrev pub held : ℕ → State → Held
held n s = record { branches = n; state = s }

-- the same of a reader, which keeps nothing after a fault
abbrev pub kept : Option Part → ℕ → Option Held
kept None n = None
kept (Some part) n = Some (held n (state_of part))

abbrev pub FitsKept : Option Part → Type 0
FitsKept None = Unit {0}
FitsKept (Some part) = FitsPart part
