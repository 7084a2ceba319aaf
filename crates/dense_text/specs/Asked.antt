-- What a reader keeps of an unfinished piece, as the state that it stands for.
use Rattle.std.specs.Prelude.{List, [], ◌∷◌, ℤ}
use Rattle.lemma_text.specs.declared.parts.Field.{Field}
use Rattle.lemma_text.specs.declared.parts.Field.TheVariants.{Variable, Scope, Node, Turns as TurnsField, Value, Total}
use Rattle.lemma_text.specs.declared.parts.Numeral.{Numeral}
use Rattle.lemma_text.specs.Asked.{counted}
use Rattle.dense_text.specs.declared.parts.Form.{Form}
use Rattle.dense_text.specs.declared.parts.Form.TheVariants.{Optimum as OptimumForm, Turns as TurnsForm, ValueOf, GivenLine, HorizonLine, AgainLine, NoPlayLine, BoundLine, BranchLine, RangeLine}
use Rattle.dense_text.specs.declared.slot.Slot.{Slot}
use Rattle.dense_text.specs.declared.slot.Slot.TheVariants.{Optimum, Turns, TupleValue, GivenScope, HorizonScope, AgainNode, NoPlayScope, BoundVariable, BoundLow, BoundHigh, BranchVariable, RangeHigh}
use Rattle.dense_text.specs.States.{State, number}

-- a number of a piece: the numbers before it, its field, and the fields after it
pub record Asked : Type 0 where
  pub form : Form
  pub values : List ℤ
  pub field : Field
  pub later : List Field

abbrev pub asked : Form → List ℤ → Field → List Field → Asked
asked f vs g gs = record { form = f; values = vs; field = g; later = gs }

abbrev pub asks : Slot → Asked
asks Optimum = asked OptimumForm [] Total []
asks Turns = asked TurnsForm [] TurnsField []
asks (TupleValue u) = asked (ValueOf u) [] Value []
asks GivenScope = asked GivenLine [] Scope []
asks HorizonScope = asked HorizonLine [] Scope []
asks AgainNode = asked AgainLine [] Node []
asks NoPlayScope = asked NoPlayLine [] Scope []
asks BoundVariable = asked BoundLine [] Variable (Value ∷ Value ∷ [])
asks (BoundLow x) = asked BoundLine (counted x.0 ∷ []) Value (Value ∷ [])
asks (BoundHigh x low) = asked BoundLine (counted x.0 ∷ low ∷ []) Value []
asks BranchVariable = asked BranchLine [] Variable []
asks RangeHigh = asked RangeLine [] Value []

abbrev pub number_of : Slot → Numeral → State
number_of s n = number (asks s).form (asks s).values ((asks s).field ∷ (asks s).later) n
