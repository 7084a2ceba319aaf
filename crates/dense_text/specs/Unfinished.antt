-- A piece that isn't whole yet: its bytes so far, and where it may stand.
use Rattle.std.specs.Prelude.{ℕ, ◌≡◌, ◌<◌, Bool, true, false, List, [], ◌∷◌, ◌++◌, length, take, codes, ℤ}
use Rattle.lemma_text.specs.declared.parts.Field.{Field}
use Rattle.lemma_text.specs.Numerals.{numeral_text, FitsNumeral}
use Rattle.lemma_text.specs.Pieces.{all_fit}
use Rattle.lemma_text.specs.Unfinished.{spaced}
use Rattle.dense_text.specs.declared.parts.Form.{Form}
use Rattle.dense_text.specs.declared.parts.Form.TheVariants.{Optimum, Turns, ValueOf}
use Rattle.dense_text.specs.declared.parts.Word.{Word}
use Rattle.dense_text.specs.declared.parts.Word.TheVariants.{Name, True, False, Open}
use Rattle.dense_text.specs.Forms.{fields, is_value, stem, lead}
use Rattle.dense_text.specs.Grammar.{is_same, Place, at_start, at_value, at}
use Rattle.dense_text.specs.States.{State, word, outcome, won, due, lettered, number, word_text, may}

-- the bytes before a word
abbrev pub before_word : Word → List ℕ
before_word Name = []
before_word True = codes "qcert 4\n"
before_word False = codes "qcert 4\n"
before_word Open = codes "qcert 4\n"

-- the bytes of a piece so far
abbrev pub pending : State → List ℕ
pending (word w read) = before_word w ++ take read (word_text w)
pending outcome = codes "qcert 4\n"
pending won = stem Optimum
pending (due d) = []
pending (lettered f) = stem f
pending (number f vs gs n) = lead f ++ (spaced vs ++ numeral_text n)

-- which pieces may come, by what they begin with
abbrev pub allows_form : Place → Form → Bool
allows_form at_start Optimum = true
allows_form at_start Turns = true
allows_form (at_value u) (ValueOf w) = is_same u w
allows_form (at d) f = may d f
allows_form p f = false

-- with values of the fields that are left, the values are those of the piece
abbrev pub GoesWith : Form → List ℤ → List Field → Type 0
GoesWith f vs gs = (ws : List ℤ) → all_fit gs ws ≡ true → all_fit (fields f) (vs ++ ws) ≡ true

-- the state is within a piece that may come at the place
abbrev pub Inside : Place → State → Type 0
Inside p (word w read) = (p ≡ at_start) × (read < length (word_text w))
Inside p outcome = p ≡ at_start
Inside p won = p ≡ at_start
Inside p (due d) = p ≡ at d
Inside p (lettered f) = (is_value f ≡ false) × (allows_form p f ≡ true)
Inside p (number f vs gs n) = (allows_form p f ≡ true) × (g : Field) × (later : List Field) × (gs ≡ g ∷ later) × FitsNumeral g n × GoesWith f vs (g ∷ later)
