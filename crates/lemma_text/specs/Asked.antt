-- What a reader keeps of an unfinished piece, as the state that it stands for.
use Rattle.std.specs.Prelude.{ℕ, suc, List, [], ◌∷◌, ℤ, pos}
use Rattle.lemma_list.specs.declared.lemma.Reason.{Reason}
use Rattle.lemma_list.specs.declared.lemma.Reason.TheVariants.{Constraint as ByConstraint, Lemma as ByLemma}
use Rattle.lemma_text.specs.declared.parts.Field.{Field}
use Rattle.lemma_text.specs.declared.parts.Field.TheVariants.{Variable, Constraint as ConstraintField, Named, Value, Total}
use Rattle.lemma_text.specs.declared.parts.Numeral.{Numeral}
use Rattle.lemma_text.specs.declared.parts.Numeral.TheVariants.{Start}
use Rattle.lemma_text.specs.declared.parts.Form.{Form}
use Rattle.lemma_text.specs.declared.parts.Form.TheVariants.{Literal, Sum, CutByConstraint, CutByLemma, Choice, LostToConstraint, LostToLemma, Forgotten as ForgottenForm}
use Rattle.lemma_text.specs.declared.slot.By.{By}
use Rattle.lemma_text.specs.declared.slot.By.TheVariants.{Constraint, Lemma}
use Rattle.lemma_text.specs.declared.slot.Slot.{Slot}
use Rattle.lemma_text.specs.declared.slot.Slot.TheVariants.{LiteralVariable, LiteralLow, LiteralHigh, SumConstraint, SumLow, SumHigh, CutVariable, CutLow, CutHigh, CutReason, ChoiceVariable, ChoiceValue, LostTo, Forgotten}
use Rattle.lemma_text.specs.Pieces.{fields, index}
use Rattle.lemma_text.specs.States.{State, number}

-- a number of a piece: the numbers before it, its field, and the fields after it
pub record Asked : Type 0 where
  pub form : Form
  pub values : List ℤ
  pub field : Field
  pub later : List Field

abbrev pub asked : Form → List ℤ → Field → List Field → Asked
asked f vs g gs = record { form = f; values = vs; field = g; later = gs }

-- as it stands in a text, where counting begins with 1
abbrev pub counted : ℕ → ℤ
counted n = pos (suc n)

-- the pieces by what their reason names, its field, and what it is
abbrev pub cut_form : By → Form
cut_form Constraint = CutByConstraint
cut_form Lemma = CutByLemma

abbrev pub lost_form : By → Form
lost_form Constraint = LostToConstraint
lost_form Lemma = LostToLemma

abbrev pub reason_field : By → Field
reason_field Constraint = ConstraintField
reason_field Lemma = Named

abbrev pub reason_of : By → ℤ → Reason
reason_of Constraint z = ByConstraint (record { 0 = index z })
reason_of Lemma z = ByLemma (record { 0 = index z })

abbrev pub asks : Slot → Asked
asks LiteralVariable = asked Literal [] Variable (Value ∷ Value ∷ [])
asks (LiteralLow x) = asked Literal (counted x.0 ∷ []) Value (Value ∷ [])
asks (LiteralHigh x low) = asked Literal (counted x.0 ∷ low ∷ []) Value []
asks SumConstraint = asked Sum [] ConstraintField (Total ∷ Total ∷ [])
asks (SumLow c) = asked Sum (counted c.0 ∷ []) Total (Total ∷ [])
asks (SumHigh c low) = asked Sum (counted c.0 ∷ low ∷ []) Total []
asks (CutVariable by) = asked (cut_form by) [] Variable (Value ∷ Value ∷ reason_field by ∷ [])
asks (CutLow by x) = asked (cut_form by) (counted x.0 ∷ []) Value (Value ∷ reason_field by ∷ [])
asks (CutHigh by x low) = asked (cut_form by) (counted x.0 ∷ low ∷ []) Value (reason_field by ∷ [])
asks (CutReason by x low high) = asked (cut_form by) (counted x.0 ∷ low ∷ high ∷ []) (reason_field by) []
asks ChoiceVariable = asked Choice [] Variable (Value ∷ [])
asks (ChoiceValue x) = asked Choice (counted x.0 ∷ []) Value []
asks (LostTo by) = asked (lost_form by) [] (reason_field by) []
asks Forgotten = asked ForgottenForm [] Named []

abbrev pub number_of : Slot → Numeral → State
number_of s n = number (asks s).form (asks s).values ((asks s).field ∷ (asks s).later) n

abbrev pub first_state : Form → State
first_state f = number f [] (fields f) Start
