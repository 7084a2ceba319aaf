-- How a text is read byte by byte.
use Rattle.std.specs.Prelude.{ℕ, ◌+◌, nat_eq, nat_lt, Bool, true, false, ◌||◌, cond, List, [], ◌∷◌, ◌++◌, length, get_or, codes, ℤ}
use Rattle.qc_model.specs.declared.problem.Kind.{Kind}
use Rattle.qc_model.specs.declared.problem.Kind.TheVariants.{Exists, Forall}
use Rattle.lemma_text.specs.declared.item.Item.{Item}
use Rattle.lemma_text.specs.declared.item.Item.TheVariants.{Head, Lemma as LemmaItem, Literal as LiteralItem, Sum as SumItem, Step, Lost, Goal, Forget}
use Rattle.lemma_text.specs.declared.parts.Field.{Field}
use Rattle.lemma_text.specs.declared.parts.Numeral.{Numeral}
use Rattle.lemma_text.specs.declared.parts.Numeral.TheVariants.{Start}
use Rattle.lemma_text.specs.declared.parts.Form.{Form}
use Rattle.lemma_text.specs.declared.parts.Form.TheVariants.{Literal, Sum, CutByConstraint, CutByLemma, Choice, LostToConstraint, LostToLemma, Forgotten}
use Rattle.lemma_text.specs.declared.parts.Word.{Word}
use Rattle.lemma_text.specs.declared.parts.Word.TheVariants.{Name, True, False}
use Rattle.lemma_text.specs.declared.parts.Due.{Due}
use Rattle.lemma_text.specs.declared.parts.Due.TheVariants.{Entries, Steps, Sums}
use Rattle.lemma_text.specs.Numerals.{Reading, further, ended, bad, reading}
use Rattle.lemma_text.specs.Pieces.{fields, is_literal, item_of}

-- what has been read of a piece
pub data State : Type 0 where
  -- so many letters of a word
  word : Word → ℕ → State
  -- the first line
  outcome : State
  -- nothing: a line begins
  due : Due → State
  -- the letter of a lemma
  begun : Kind → State
  -- the letter of a line with numbers
  lettered : Form → State
  -- the letter of the goal
  reached : State
  -- these values, which so many fields follow, and some of the next
  number : Form → List ℤ → List Field → Numeral → State

-- a byte is within a piece, or ends it, or no piece has it there
pub data Next : Type 0 where
  more : State → Next
  whole : Item → Next
  wrong : Next

abbrev pub word_text : Word → List ℕ
word_text Name = codes "qcert 3\n"
word_text True = codes "true\n"
word_text False = codes "false\n"

abbrev pub word_end : Word → Next
word_end Name = more outcome
word_end True = whole (Head Forall)
word_end False = whole (Head Exists)

abbrev pub word_next : Word → ℕ → ℕ → Next
word_next w read b = cond (nat_eq b (get_or (word_text w) read 0)) (cond (nat_lt (read + 1) (length (word_text w))) (more (word w (read + 1))) (word_end w)) wrong

abbrev pub entry_letter : ℕ → Next
entry_letter b = cond (nat_eq b 108) (more (begun Exists)) (cond (nat_eq b 119) (more (begun Forall)) (cond (nat_eq b 100) (more (lettered Forgotten)) wrong))

abbrev pub step_letter : ℕ → Next
step_letter b =
    cond (nat_eq b 112) (more (lettered CutByConstraint)) (cond (nat_eq b 113) (more (lettered CutByLemma)) (cond (nat_eq b 99) (more (lettered Choice))
    (cond (nat_eq b 102) (more (lettered LostToConstraint)) (cond (nat_eq b 97) (more (lettered LostToLemma)) (cond (nat_eq b 103) (more reached) (entry_letter b))))))

abbrev pub due_letter : Due → ℕ → Next
due_letter Entries b = entry_letter b
due_letter Steps b = step_letter b
due_letter Sums b = cond (nat_eq b 117) (more (lettered Sum)) (step_letter b)

-- a literal may be followed by another, the other pieces end with their line
abbrev pub is_end : Form → ℕ → Bool
is_end f b = is_literal f || nat_eq b 10

-- after a value, and a byte that ends it
abbrev pub valued : Form → List ℤ → List Field → ℕ → Next
valued f vs [] b = cond (is_end f b) (whole (item_of f vs (nat_eq b 10))) wrong
valued f vs (g ∷ gs) b = cond (nat_eq b 32) (more (number f vs (g ∷ gs) Start)) wrong

abbrev pub read_by : Form → List ℤ → List Field → ℕ → Reading → Next
read_by f vs gs b (further n) = more (number f vs gs n)
read_by f vs [] b (ended z) = wrong
read_by f vs (g ∷ gs) b (ended z) = valued f (vs ++ z ∷ []) gs b
read_by f vs gs b bad = wrong

abbrev pub number_next : Form → List ℤ → List Field → Numeral → ℕ → Next
number_next f vs [] n b = wrong
number_next f vs (g ∷ gs) n b = read_by f vs (g ∷ gs) b (reading g n b)

abbrev pub next : State → ℕ → Next
next (word w read) b = word_next w read b
next outcome b = cond (nat_eq b 116) (more (word True 1)) (cond (nat_eq b 102) (more (word False 1)) wrong)
next (due d) b = due_letter d b
next (begun k) b = cond (nat_eq b 32) (whole (LemmaItem k false)) (cond (nat_eq b 10) (whole (LemmaItem k true)) wrong)
next (lettered f) b = cond (nat_eq b 32) (more (number f [] (fields f) Start)) wrong
next reached b = cond (nat_eq b 10) (whole Goal) wrong
next (number f vs gs n) b = number_next f vs gs n b

-- which pieces may come
pub data Place : Type 0 where
  at_start : Place
  at_literal : Place
  at : Due → Place

abbrev pub state_at : Place → State
state_at at_start = word Name 0
state_at at_literal = number Literal [] (fields Literal) Start
state_at (at d) = due d

-- after a piece
abbrev pub place_after : Item → Place
place_after (Head k) = at Entries
place_after (LemmaItem k bare) = cond bare (at Sums) at_literal
place_after (LiteralItem l last) = cond last (at Sums) at_literal
place_after (SumItem z) = at Sums
place_after (Step s) = at Steps
place_after (Lost r) = at Entries
place_after Goal = at Entries
place_after (Forget n) = at Entries

abbrev pub may_step : Due → Bool
may_step Entries = false
may_step Steps = true
may_step Sums = true

abbrev pub may_sum : Due → Bool
may_sum Entries = false
may_sum Steps = false
may_sum Sums = true

abbrev pub allows : Place → Item → Bool
allows at_start (Head k) = true
allows at_literal (LiteralItem l last) = true
allows (at d) (LemmaItem k bare) = true
allows (at d) (SumItem z) = may_sum d
allows (at d) (Step s) = may_step d
allows (at d) (Lost r) = may_step d
allows (at d) Goal = may_step d
allows (at d) (Forget n) = true
allows p i = false
