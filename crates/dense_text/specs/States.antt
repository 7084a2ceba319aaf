-- How a text is read byte by byte.
use Rattle.std.specs.Prelude.{ℕ, ◌+◌, nat_eq, nat_lt, Bool, false, ◌&&◌, ◌||◌, cond, None, List, [], ◌∷◌, ◌++◌, length, get_or, codes, ℤ}
use Rattle.proof_tree.specs.declared.tree.Outcome.TheVariants.{True as TrueOutcome, False as FalseOutcome}
use Rattle.lemma_text.specs.declared.parts.Field.{Field}
use Rattle.lemma_text.specs.declared.parts.Field.TheVariants.{Value as ValueField}
use Rattle.lemma_text.specs.declared.parts.Numeral.{Numeral}
use Rattle.lemma_text.specs.declared.parts.Numeral.TheVariants.{Start}
use Rattle.lemma_text.specs.Numerals.{Reading, further, ended, bad, reading}
use Rattle.dense_text.specs.declared.piece.Piece.{Piece}
use Rattle.dense_text.specs.declared.piece.Piece.TheVariants.{Head}
use Rattle.dense_text.specs.declared.parts.Form.{Form}
use Rattle.dense_text.specs.declared.parts.Form.TheVariants.{Optimum, Turns, ValueOf, GivenLine, NameLine, HorizonLine, StuckLine, GoalLine, AgainLine, NoPlayLine, CloseLine, BoundLine, ReplyLine, EmptyLine, BarredLine, BestLine, NextLine, ChosenLine, BranchLine, RangeLine, SkipLine, OpenLine, DotLine}
use Rattle.dense_text.specs.declared.parts.Word.{Word}
use Rattle.dense_text.specs.declared.parts.Word.TheVariants.{Name, True, False, Open}
use Rattle.dense_text.specs.declared.parts.Due.{Due}
use Rattle.dense_text.specs.Forms.{letter, all_lines, fields, may_go_on, piece_of}
use Rattle.dense_text.specs.Grammar.{may_give, may_begin, may_limit, may_end, may_step, may_give_up, may_range, may_skip, Place, at_start, at_value, at}

-- what has been read of a piece
pub data State : Type 0 where
  -- so many letters of a word
  word : Word → ℕ → State
  -- the first line
  outcome : State
  -- that the game is won
  won : State
  -- nothing: a line begins, or the text has ended
  due : Due → State
  -- the letter of a line, or the word before its turns
  lettered : Form → State
  -- these values, which so many fields follow, and some of the next
  number : Form → List ℤ → List Field → Numeral → State

-- a byte is within a piece, or ends it, or no piece has it there
pub data After : Type 0 where
  more : State → After
  whole : Piece → After
  wrong : After

abbrev pub word_text : Word → List ℕ
word_text Name = codes "qcert 4\n"
word_text True = codes "true"
word_text False = codes "false\n"
word_text Open = codes "open"

abbrev pub word_end : Word → After
word_end Name = more outcome
word_end True = more won
word_end False = whole (Head FalseOutcome None)
word_end Open = more (lettered Turns)

abbrev pub word_next : Word → ℕ → ℕ → After
word_next w read b = cond (nat_eq b (get_or (word_text w) read 0)) (cond (nat_lt (read + 1) (length (word_text w))) (more (word w (read + 1))) (word_end w)) wrong

abbrev pub outcome_next : ℕ → After
outcome_next b = cond (nat_eq b 116) (more (word True 1)) (cond (nat_eq b 102) (more (word False 1)) (cond (nat_eq b 111) (more (word Open 1)) wrong))

abbrev pub won_next : ℕ → After
won_next b = cond (nat_eq b 10) (whole (Head TrueOutcome None)) (cond (nat_eq b 32) (more (number Optimum [] (fields Optimum) Start)) wrong)

-- which lines may come
abbrev pub may : Due → Form → Bool
may d Optimum = false
may d Turns = false
may d (ValueOf u) = false
may d GivenLine = may_give d
may d NameLine = may_begin d
may d AgainLine = may_begin d
may d HorizonLine = may_limit d
may d StuckLine = may_end d
may d GoalLine = may_end d
may d NoPlayLine = may_give_up d
may d CloseLine = may_step d
may d BoundLine = may_step d
may d ReplyLine = may_step d
may d EmptyLine = may_step d
may d BarredLine = may_step d
may d BestLine = may_step d
may d NextLine = may_step d
may d ChosenLine = may_step d
may d BranchLine = may_step d
may d RangeLine = may_range d
may d DotLine = may_range d
may d SkipLine = may_skip d
may d OpenLine = may_skip d

-- the line with that letter, where it may come
abbrev pub line_next : Due → List Form → ℕ → After
line_next d [] b = wrong
line_next d (f ∷ fs) b = cond (nat_eq b (letter f)) (cond (may d f) (more (lettered f)) wrong) (line_next d fs b)

-- the line ends with the byte, or a value may follow
abbrev pub is_end : Form → ℕ → Bool
is_end f b = nat_eq b 10 || (may_go_on f && nat_eq b 32)

-- after a letter or a value, with a byte that comes there
abbrev pub valued : Form → List ℤ → List Field → ℕ → After
valued f vs [] b = cond (is_end f b) (whole (piece_of f vs (nat_eq b 10))) wrong
valued f vs (g ∷ gs) b = cond (nat_eq b 32) (more (number f vs (g ∷ gs) Start)) wrong

abbrev pub read_by : Form → List ℤ → List Field → ℕ → Reading → After
read_by f vs gs b (further n) = more (number f vs gs n)
read_by f vs [] b (ended z) = wrong
read_by f vs (g ∷ gs) b (ended z) = valued f (vs ++ z ∷ []) gs b
read_by f vs gs b bad = wrong

abbrev pub number_next : Form → List ℤ → List Field → Numeral → ℕ → After
number_next f vs [] n b = wrong
number_next f vs (g ∷ gs) n b = read_by f vs (g ∷ gs) b (reading g n b)

abbrev pub next : State → ℕ → After
next (word w read) b = word_next w read b
next outcome b = outcome_next b
next won b = won_next b
next (due d) b = line_next d all_lines b
next (lettered f) b = valued f [] (fields f) b
next (number f vs gs n) b = number_next f vs gs n b

abbrev pub state_at : Place → State
state_at at_start = word Name 0
state_at (at_value u) = number (ValueOf u) [] (ValueField ∷ []) Start
state_at (at d) = due d
