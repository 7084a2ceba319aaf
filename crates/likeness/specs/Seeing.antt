-- What the values of the first variables tell the constraints from a scope on.
use Rattle.std.specs.Prelude.{◌≡◌, ℕ, nat_le, Bool, true, false, IsTrue, List, filter, map, slice_index_or, ℤ, pos}
use Rattle.qc_model.specs.Content.{Game, Rule}
use Rattle.qc_model.specs.Lists.{Among}
use Rattle.proof_alike.specs.Reading.{Reading, as_sum, as_plus, as_clause, by_value, reading}
use Rattle.proof_alike.specs.Alike.{sees}
use Rattle.std.specs.Borrow.{Bor}
use Rattle.likeness.specs.Marks.{AreMarksOf}
use Rattle.likeness.specs.declared.reading.Reading.{Reading as ReadingOfCode}
use Rattle.likeness.specs.declared.reading.Reading.TheVariants.{Sum, Plus, Clause, Value}

-- a reading of the code
abbrev pub read_as : ReadingOfCode → Reading
read_as Sum = as_sum
read_as Plus = as_plus
read_as Clause = as_clause
read_as Value = by_value

-- each constraint of a scope from i on, or of the goal, sees the same of both values
abbrev pub SeeAlike : Game → ℕ → List ℤ → List ℤ → Type 0
SeeAlike g i vs ws = (c : Rule) → Among c g.constraints → IsTrue (nat_le i c.owner.0) → sees g i vs c ≡ sees g i ws c

-- the constraint sees values other than by themselves
abbrev pub is_telling : Reading → Bool
is_telling as_sum = true
is_telling as_plus = true
is_telling as_clause = true
is_telling by_value = false

abbrev pub tells : Rule → Bool
tells c = is_telling (reading c)

-- the values of the variables with these numbers, 0 where one has none
abbrev pub values_of : List ℤ → List ℕ → List ℤ
values_of vs xs = map (λ x. slice_index_or vs x (pos 0)) xs

-- what a sight of the game keeps: the last scope from which on each variable is looked at, and the constraints that see values
-- other than by themselves
pub record IsSightOf (g : Game) (upto : List ℕ) (telling : List (Bor Rule)) : Type 0 where
  pub marks : AreMarksOf g upto
  pub rules : map (λ r. r.now) telling ≡ filter tells g.constraints
