-- A piece that isn't whole yet: its bytes so far, and where it may stand.
use Rattle.std.specs.Prelude.{ℕ, ◌≡◌, ◌<◌, Bool, true, false, List, [], ◌∷◌, ◌++◌, length, take, codes, ℤ}
use Rattle.std.specs.Fmt.{signed_decimal}
use Rattle.lemma_text.specs.declared.parts.Field.{Field}
use Rattle.lemma_text.specs.declared.parts.Form.{Form}
use Rattle.lemma_text.specs.declared.parts.Form.TheVariants.{Literal, Sum, CutByConstraint, CutByLemma, Choice, LostToConstraint, LostToLemma, Forgotten}
use Rattle.lemma_text.specs.declared.parts.Word.{Word}
use Rattle.lemma_text.specs.declared.parts.Word.TheVariants.{Name, True, False}
use Rattle.lemma_text.specs.declared.parts.Due.{Due}
use Rattle.lemma_text.specs.Text.{loser_text}
use Rattle.lemma_text.specs.Numerals.{numeral_text, FitsNumeral}
use Rattle.lemma_text.specs.Pieces.{fields, letter, is_literal, lead, all_fit}
use Rattle.lemma_text.specs.States.{State, word, outcome, due, begun, lettered, reached, number, word_text, Place, at_start, at_literal, at, may_step, may_sum}

-- the bytes before a word
abbrev pub before_word : Word → List ℕ
before_word Name = []
before_word True = codes "qcert 3\n"
before_word False = codes "qcert 3\n"

-- values, and a space after each
abbrev pub spaced : List ℤ → List ℕ
spaced [] = []
spaced (v ∷ vs) = signed_decimal v ++ 32 ∷ spaced vs

-- the bytes of a piece so far
abbrev pub pending : State → List ℕ
pending (word w read) = before_word w ++ take read (word_text w)
pending outcome = codes "qcert 3\n"
pending (due d) = []
pending (begun k) = loser_text k
pending (lettered f) = letter f ∷ []
pending reached = 103 ∷ []
pending (number f vs gs n) = lead f ++ (spaced vs ++ numeral_text n)

-- which pieces with numbers may come
abbrev pub allows_form : Place → Form → Bool
allows_form at_literal Literal = true
allows_form (at d) Sum = may_sum d
allows_form (at d) CutByConstraint = may_step d
allows_form (at d) CutByLemma = may_step d
allows_form (at d) Choice = may_step d
allows_form (at d) LostToConstraint = may_step d
allows_form (at d) LostToLemma = may_step d
allows_form (at d) Forgotten = true
allows_form p f = false

-- with values of the fields that are left, the values are those of the piece
abbrev pub GoesWith : Form → List ℤ → List Field → Type 0
GoesWith f vs gs = (ws : List ℤ) → all_fit gs ws ≡ true → all_fit (fields f) (vs ++ ws) ≡ true

-- the state is within a piece that may come at the place
abbrev pub Inside : Place → State → Type 0
Inside p (word w read) = (p ≡ at_start) × (read < length (word_text w))
Inside p outcome = p ≡ at_start
Inside p (due d) = p ≡ at d
Inside p (begun k) = (d : Due) × (p ≡ at d)
Inside p (lettered f) = (is_literal f ≡ false) × (allows_form p f ≡ true)
Inside p reached = (d : Due) × (p ≡ at d) × (may_step d ≡ true)
Inside p (number f vs gs n) = (allows_form p f ≡ true) × (g : Field) × (later : List Field) × (gs ≡ g ∷ later) × FitsNumeral g n × GoesWith f vs (g ∷ later)
