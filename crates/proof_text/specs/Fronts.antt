-- The head of a text, its first two lines, as far as it is read.
use Rattle.std.specs.Prelude.{ℕ, ◌<◌, ◌^◌, ◌≡◌, List, [], ◌∷◌, ◌++◌, length, take, drop, codes, IsTrue}
use Rattle.proof_tree.specs.declared.tree.Version.{Version}
use Rattle.proof_tree.specs.declared.tree.Version.TheVariants.{One, Two}
use Rattle.proof_tree.specs.Text.{version_text, outcome_text, outcome_fits}
use Rattle.proof_text.specs.declared.front.Word.{Word}
use Rattle.proof_text.specs.declared.front.Word.TheVariants.{Name, True, False, Open}
use Rattle.proof_text.specs.declared.front.Front.{Front}
use Rattle.proof_text.specs.declared.front.Front.TheVariants.{Letters, Digit, FirstEnd, SecondLine, Optimum, Value, Turns}
use Rattle.proof_text.specs.declared.front.FrontNext.{FrontNext}
use Rattle.proof_text.specs.declared.front.FrontNext.TheVariants.{More, Chosen, Whole, Wrong}
use Rattle.proof_text.specs.Numerals.{counted_owes, counted_text, FitsCounted, signed_owes, signed_text, FitsSigned}
use Rattle.proof_text.specs.Symbols.{Symbol, byte, bytes, number, certificate, outcome, optimum, node}
use Rattle.proof_text.specs.Standing.{owing, no_text, next_standing}

abbrev pub word_text : Word → List ℕ
word_text Name = codes "qcert "
word_text True = codes "true"
word_text False = codes "false\n"
word_text Open = codes "open "

-- what is owed after a word
abbrev pub word_owes : Version → Word → List Symbol
word_owes version Name = certificate ∷ []
word_owes version True = optimum ∷ node version 0 ∷ []
word_owes version False = node version 0 ∷ []
word_owes version Open = number 10000000 10 ∷ node version 0 ∷ []

-- the bytes before a word
abbrev pub before_word : Version → Word → List ℕ
before_word version Name = []
before_word version True = version_text version
before_word version False = version_text version
before_word version Open = version_text version

abbrev pub version_digit : Version → ℕ
version_digit One = 49
version_digit Two = 50

-- all that is owed
abbrev pub front_owes : Version → Front → List Symbol
front_owes version (Letters word read) = bytes (drop read (word_text word)) ++ word_owes version word
front_owes version Digit = certificate ∷ []
front_owes version FirstEnd = byte 10 ∷ outcome ∷ node version 0 ∷ []
front_owes version SecondLine = outcome ∷ node version 0 ∷ []
front_owes version Optimum = optimum ∷ node version 0 ∷ []
front_owes version (Value v) = signed_owes (2 ^ 62) 10 v ∷ node version 0 ∷ []
front_owes version (Turns n) = counted_owes 10000000 10 n ∷ node version 0 ∷ []

-- all bytes so far
abbrev pub front_text : Version → Front → List ℕ
front_text version (Letters word read) = before_word version word ++ take read (word_text word)
front_text version Digit = codes "qcert "
front_text version FirstEnd = codes "qcert " ++ version_digit version ∷ []
front_text version SecondLine = version_text version
front_text version Optimum = version_text version ++ codes "true"
front_text version (Value v) = version_text version ++ (codes "true " ++ signed_text v)
front_text version (Turns n) = version_text version ++ (codes "open " ++ counted_text n)

abbrev pub FitsFront : Front → Type 0
FitsFront (Letters word read) = read < length (word_text word)
FitsFront Digit = Unit {0}
FitsFront FirstEnd = Unit {0}
FitsFront SecondLine = Unit {0}
FitsFront Optimum = Unit {0}
FitsFront (Value v) = FitsSigned (2 ^ 62) v
FitsFront (Turns n) = FitsCounted 10000000 n

-- how it goes on with a byte
abbrev pub FrontGoes : Version → Front → ℕ → FrontNext → Type 0
FrontGoes version front b (More next) =
    (next_standing (owing (front_owes version front)) b ≡ owing (front_owes version next)) × (front_text version next ≡ front_text version front ++ b ∷ []) × FitsFront next
    × (b ≡ 10 → next ≡ SecondLine)
FrontGoes version front b (Chosen v) =
    (next_standing (owing (front_owes version front)) b ≡ owing (front_owes v FirstEnd)) × (front_text v FirstEnd ≡ front_text version front ++ b ∷ []) × (b ≡ 10 → ⊥)
FrontGoes version front b (Whole o v) =
    (next_standing (owing (front_owes version front)) b ≡ owing (node version 0 ∷ [])) × (version_text version ++ outcome_text o v ≡ front_text version front ++ b ∷ []) × IsTrue (outcome_fits o v)
FrontGoes version front b Wrong = next_standing (owing (front_owes version front)) b ≡ no_text
