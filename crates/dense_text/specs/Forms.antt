-- The pieces by what they begin with: the letter, the numbers after it, and what these come to.
use Rattle.std.specs.Prelude.{ℕ, Bool, true, false, cond, Some, None, List, [], ◌∷◌, ◌++◌, codes, ℤ, unsigned_abs}
use Rattle.qc_model.specs.declared.problem.ScopeId.{ScopeId}
use Rattle.qc_model.specs.declared.problem.VarId.{VarId}
use Rattle.proof_tree.specs.declared.tree.Outcome.TheVariants.{True, Open}
use Rattle.lemma_text.specs.declared.parts.Field.{Field}
use Rattle.lemma_text.specs.declared.parts.Field.TheVariants.{Variable, Scope, Node as NodeField, Turns as TurnsField, Value as ValueField, Total}
use Rattle.lemma_text.specs.Pieces.{tied, index}
use Rattle.dense_text.specs.declared.piece.Piece.{Piece}
use Rattle.dense_text.specs.declared.piece.Piece.TheVariants.{Head, Given, Reply, Chosen, Value, Named, Horizon, Stuck, Goal, Again, NoPlay, Close, Bound, Empty, Barred, BestLeft, Next, Branch, Range, Skip, LeftOpen, Dot}
use Rattle.dense_text.specs.declared.parts.Form.{Form}
use Rattle.dense_text.specs.declared.parts.Form.TheVariants.{Optimum, Turns, ValueOf, GivenLine, NameLine, HorizonLine, StuckLine, GoalLine, AgainLine, NoPlayLine, CloseLine, BoundLine, ReplyLine, EmptyLine, BarredLine, BestLine, NextLine, ChosenLine, BranchLine, RangeLine, SkipLine, OpenLine, DotLine}

-- the letter of its line; an optimum, turns and values have none
abbrev pub letter : Form → ℕ
letter Optimum = 0
letter Turns = 0
letter (ValueOf u) = 0
letter GivenLine = 117
letter NameLine = 109
letter HorizonLine = 104
letter StuckLine = 116
letter GoalLine = 103
letter AgainLine = 97
letter NoPlayLine = 108
letter CloseLine = 99
letter BoundLine = 98
letter ReplyLine = 102
letter EmptyLine = 101
letter BarredLine = 120
letter BestLine = 121
letter NextLine = 110
letter ChosenLine = 119
letter BranchLine = 118
letter RangeLine = 114
letter SkipLine = 115
letter OpenLine = 111
letter DotLine = 46

abbrev pub all_lines : List Form
all_lines =
    GivenLine ∷ NameLine ∷ HorizonLine ∷ StuckLine ∷ GoalLine ∷ AgainLine ∷ NoPlayLine ∷ CloseLine ∷ BoundLine ∷ ReplyLine ∷ EmptyLine ∷ BarredLine ∷ BestLine ∷ NextLine
    ∷ ChosenLine ∷ BranchLine ∷ RangeLine ∷ SkipLine ∷ OpenLine ∷ DotLine ∷ []

abbrev pub is_value : Form → Bool
is_value (ValueOf u) = true
is_value f = false

-- what it begins with
abbrev pub stem : Form → List ℕ
stem Optimum = codes "qcert 4\ntrue"
stem Turns = codes "qcert 4\nopen"
stem (ValueOf u) = []
stem f = letter f ∷ []

-- what stands before its first number
abbrev pub lead : Form → List ℕ
lead f = cond (is_value f) [] (stem f ++ 32 ∷ [])

-- its numbers
abbrev pub fields : Form → List Field
fields Optimum = Total ∷ []
fields Turns = TurnsField ∷ []
fields (ValueOf u) = ValueField ∷ []
fields GivenLine = Scope ∷ []
fields HorizonLine = Scope ∷ []
fields AgainLine = NodeField ∷ []
fields NoPlayLine = Scope ∷ []
fields BoundLine = Variable ∷ ValueField ∷ ValueField ∷ []
fields BranchLine = Variable ∷ []
fields RangeLine = ValueField ∷ []
fields f = []

-- a value may follow in the same line
abbrev pub may_go_on : Form → Bool
may_go_on (ValueOf u) = true
may_go_on GivenLine = true
may_go_on ReplyLine = true
may_go_on ChosenLine = true
may_go_on f = false

abbrev pub scope_of : ℤ → ScopeId
scope_of z = record { 0 = index z }

abbrev pub variable_of : ℤ → VarId
variable_of z = record { 0 = index z }

-- what the numbers come to, and whether the line ends
abbrev pub piece_of : Form → List ℤ → Bool → Piece
piece_of Optimum (v ∷ []) last = Head True (Some v)
piece_of Turns (n ∷ []) last = Head (Open (unsigned_abs n)) None
piece_of (ValueOf u) (v ∷ []) last = Value u v last
piece_of GivenLine (k ∷ []) last = Given (scope_of k) last
piece_of NameLine [] last = Named
piece_of HorizonLine (k ∷ []) last = Horizon (scope_of k)
piece_of StuckLine [] last = Stuck
piece_of GoalLine [] last = Goal
piece_of AgainLine (n ∷ []) last = Again (index n)
piece_of NoPlayLine (k ∷ []) last = NoPlay (scope_of k)
piece_of CloseLine [] last = Close
piece_of BoundLine (x ∷ low ∷ high ∷ []) last = Bound (variable_of x) low high
piece_of ReplyLine [] last = Reply last
piece_of EmptyLine [] last = Empty
piece_of BarredLine [] last = Barred
piece_of BestLine [] last = BestLeft
piece_of NextLine [] last = Next
piece_of ChosenLine [] last = Chosen last
piece_of BranchLine (x ∷ []) last = Branch (variable_of x)
piece_of RangeLine (high ∷ []) last = Range high
piece_of SkipLine [] last = Skip
piece_of OpenLine [] last = LeftOpen
piece_of DotLine [] last = Dot
piece_of f vs last = Stuck

-- its text, with the byte after the last number
abbrev pub spelled : Form → List ℤ → ℕ → List ℕ
spelled f [] e = stem f ++ e ∷ []
spelled f (v ∷ vs) e = lead f ++ tied (v ∷ vs) e
