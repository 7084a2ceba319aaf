-- The pieces with numbers: what stands before the numbers, which they are, and what they come to.
use Rattle.std.specs.Prelude.{ℕ, zero, suc, Bool, true, false, cond, ◌&&◌, List, [], ◌∷◌, ◌++◌, ℤ, pos, negsuc}
use Rattle.std.specs.Fmt.{signed_decimal}
use Rattle.lemma_list.specs.declared.lemma.Reason.TheVariants.{Constraint as ByConstraint, Lemma as ByLemma}
use Rattle.lemma_list.specs.declared.lemma.Step.TheVariants.{Cut, Choose}
use Rattle.lemma_text.specs.declared.item.Item.{Item}
use Rattle.lemma_text.specs.declared.item.Item.TheVariants.{Literal as LiteralItem, Sum as SumItem, Step, Lost, Goal, Forget}
use Rattle.lemma_text.specs.declared.parts.Field.{Field}
use Rattle.lemma_text.specs.declared.parts.Field.TheVariants.{Variable, Constraint, Named, Value, Total}
use Rattle.lemma_text.specs.declared.parts.Form.{Form}
use Rattle.lemma_text.specs.declared.parts.Form.TheVariants.{Literal, Sum, CutByConstraint, CutByLemma, Choice, LostToConstraint, LostToLemma, Forgotten}
use Rattle.lemma_text.specs.Numerals.{value_fits}

abbrev pub fields : Form → List Field
fields Literal = Variable ∷ Value ∷ Value ∷ []
fields Sum = Constraint ∷ Total ∷ Total ∷ []
fields CutByConstraint = Variable ∷ Value ∷ Value ∷ Constraint ∷ []
fields CutByLemma = Variable ∷ Value ∷ Value ∷ Named ∷ []
fields Choice = Variable ∷ Value ∷ []
fields LostToConstraint = Constraint ∷ []
fields LostToLemma = Named ∷ []
fields Forgotten = Named ∷ []

-- the letter of its line; a literal has none
abbrev pub letter : Form → ℕ
letter Literal = 0
letter Sum = 117
letter CutByConstraint = 112
letter CutByLemma = 113
letter Choice = 99
letter LostToConstraint = 102
letter LostToLemma = 97
letter Forgotten = 100

abbrev pub is_literal : Form → Bool
is_literal Literal = true
is_literal f = false

abbrev pub lead : Form → List ℕ
lead f = cond (is_literal f) [] (letter f ∷ 32 ∷ [])

-- as many values as fields, each of its own
abbrev pub all_fit : List Field → List ℤ → Bool
all_fit [] [] = true
all_fit [] (v ∷ vs) = false
all_fit (g ∷ gs) [] = false
all_fit (g ∷ gs) (v ∷ vs) = value_fits g v && all_fit gs vs

-- the values with a byte after each but the last, which another follows
abbrev pub tied : List ℤ → ℕ → List ℕ
tied [] e = []
tied (v ∷ []) e = signed_decimal v ++ e ∷ []
tied (v ∷ w ∷ vs) e = signed_decimal v ++ 32 ∷ tied (w ∷ vs) e

-- the byte after the last number: a literal may be followed by another
abbrev pub end_byte : Bool → ℕ
end_byte last = cond last 10 32

-- what is counted from 1
abbrev pub index : ℤ → ℕ
index (pos zero) = zero
index (pos (suc n)) = n
index (negsuc n) = zero

-- what the numbers come to
abbrev pub item_of : Form → List ℤ → Bool → Item
item_of Literal (x ∷ low ∷ high ∷ []) last = LiteralItem (record { x = record { 0 = index x }; lo = low; hi = high }) last
item_of Sum (c ∷ low ∷ high ∷ []) last = SumItem (record { c = record { 0 = index c }; lo = low; hi = high })
item_of CutByConstraint (x ∷ low ∷ high ∷ c ∷ []) last = Step (Cut (record { 0 = index x }) low high (ByConstraint (record { 0 = index c })))
item_of CutByLemma (x ∷ low ∷ high ∷ n ∷ []) last = Step (Cut (record { 0 = index x }) low high (ByLemma (record { 0 = index n })))
item_of Choice (x ∷ v ∷ []) last = Step (Choose (record { 0 = index x }) v)
item_of LostToConstraint (c ∷ []) last = Lost (ByConstraint (record { 0 = index c }))
item_of LostToLemma (n ∷ []) last = Lost (ByLemma (record { 0 = index n }))
item_of Forgotten (n ∷ []) last = Forget (record { 0 = index n })
item_of f vs last = Goal
