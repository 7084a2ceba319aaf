-- Sums that have so much room that no end of a variable breaks them.
use Rattle.std.specs.Prelude.{◌≡◌, ◌≢◌, ◌⊎◌, ℕ, Bool, true, false, cond, List, map, slice_get, Some, IsTrue, IsFalse, ℤ, pos, ◌*ℤ◌, ◌+ℤ◌, ◌≤ℤ◌, ◌<ℤ◌, int_lt}
use Rattle.qc_model.specs.declared.problem.Arg.{Arg}
use Rattle.qc_model.specs.declared.problem.Arg.TheVariants.{Var, Num}
use Rattle.qc_model.specs.declared.problem.Pred.TheVariants.{IntLinEq, IntLinLe}
use Rattle.qc_model.specs.declared.problem.VarId.{VarId}
use Rattle.qc_model.specs.Arguments.{variables_of}
use Rattle.qc_model.specs.Closed.{refutes_at}
use Rattle.qc_model.specs.Content.{Rule}
use Rattle.qc_model.specs.Domains.{Values, Box, values_left, is_within, least_value, greatest_value}
use Rattle.qc_model.specs.Left.{sum_range}
use Rattle.qc_model.specs.Lists.{Among}
use Rattle.qc_model.specs.Ranges.{Range}
use Rattle.qc_model.specs.Refuted.{left_to, refuted_by}
use Rattle.qc_model.specs.Valid.{is_number}
use Rattle.model_arguments.specs.Repeats.{has_repeat}
use Rattle.model_arguments.specs.Written.{arg_at, args_at, ints_at}
use Rattle.dense_closing.specs.Takes.{Takes}
use Rattle.dense_quiet.specs.declared.slack.Room.{Room}

-- the ends of a term with this factor are at most s apart
pub record IsNear (s n : ℤ) (d : Values) : Type 0 where
  pub up : (n *ℤ greatest_value d) ≤ℤ ((n *ℤ least_value d) +ℤ s)
  pub down : (n *ℤ least_value d) ≤ℤ ((n *ℤ greatest_value d) +ℤ s)

-- the argument is a variable whose values may be taken
abbrev pub is_taken : (ℕ → Bool) → Arg → Bool
is_taken ok (Var x) = ok x.0
is_taken ok (Num n) = false

-- so are those of each term of such a variable
abbrev pub AreNear : (ℕ → Bool) → ℤ → List ℤ → List Arg → Box → Type 0
AreNear ok s ns xs box = (i : ℕ) (n : ℤ) (a : Arg) → slice_get ns i ≡ Some n → slice_get xs i ≡ Some a → IsTrue (is_taken ok a) → IsNear s n (left_to box a)

-- so are those of each term of any variable
abbrev pub AllNear : ℤ → List ℤ → List Arg → Box → Type 0
AllNear s ns xs box = AreNear (λ x. true) s ns xs box

-- the constraint refutes neither the box nor an end of a variable that it may take
pub record SparesTaken (takes : Takes) (c : Rule) (box : Box) : Type 0 where
  pub whole : IsFalse (refuted_by c box)
  pub least : (x : ℕ) → Among x (variables_of c.args) → IsTrue (takes c x) → IsFalse (refutes_at c box x (least_value (values_left box x)))
  pub greatest : (x : ℕ) → Among x (variables_of c.args) → IsTrue (takes c x) → IsFalse (refutes_at c box x (greatest_value (values_left box x)))

-- what the sum of a constraint can be
abbrev pub sum_left : Rule → Box → Range
sum_left c box = sum_range (ints_at c.args 0) (map (left_to box) (args_at c.args 1))

-- as much room as is told at most
abbrev pub most_room : ℤ
most_room = pos 4000000000000000000

-- the constraint is a sum that a number bounds, in which no variable stands twice, and there is no more room than is told: from where
-- the sum begins up to the number, and where both are to be equal from the number up to where the sum ends
pub record RoomTells (c : Rule) (r : Room) (box : Box) : Type 0 where
  pub is_equal : Bool
  pub bound : ℤ
  pub pred : c.pred ≡ cond is_equal IntLinEq IntLinLe
  pub number : arg_at c.args 2 ≡ Num bound
  pub once : IsFalse (has_repeat (args_at c.args 1))
  pub under : r.under <ℤ most_room → bound ≤ℤ ((sum_left c box).from +ℤ r.under)
  pub over : r.over <ℤ most_room → IsTrue is_equal × ((sum_left c box).to ≤ℤ (bound +ℤ r.over))

-- from where the sum begins up to the number there is as much room as is told, if there is some
abbrev pub HasRoom : Rule → ℤ → Box → Type 0
HasRoom c s box = (m : ℤ) → arg_at c.args 2 ≡ Num m → pos 0 ≤ℤ s → ((sum_left c box).from +ℤ s) ≤ℤ m

-- the constraint is a sum that is to be at most a number, in which no variable stands twice, and there is this much room from where the
-- sum begins up to the number, or more where it is as much as is told at most
pub record IsBounded (c : Rule) (s : ℤ) (box : Box) : Type 0 where
  pub bound : ℤ
  pub pred : c.pred ≡ IntLinLe
  pub number : arg_at c.args 2 ≡ Num bound
  pub once : IsFalse (has_repeat (args_at c.args 1))
  pub some : pos 0 ≤ℤ s
  pub fits : ((sum_left c box).from +ℤ s) ≤ℤ bound
  pub tight : s <ℤ most_room → bound ≤ℤ ((sum_left c box).from +ℤ s)

-- x stands in the sum, with this factor
pub record IsTermOf (c : Rule) (n : ℤ) (x : VarId) : Type 0 where
  pub place : ℕ
  pub factor : slice_get (ints_at c.args 0) place ≡ Some n
  pub item : slice_get (args_at c.args 1) place ≡ Some (Var x)

-- the item stands in the sum, with this factor
pub record IsItemOf (c : Rule) (n : ℤ) (a : Arg) : Type 0 where
  pub place : ℕ
  pub factor : slice_get (ints_at c.args 0) place ≡ Some n
  pub item : slice_get (args_at c.args 1) place ≡ Some a

-- a factor other than 0, and the values from least to greatest, all within the limit
pub record IsMeasured (n least greatest : ℤ) : Type 0 where
  pub small : IsTrue (is_number n)
  pub some : n ≢ pos 0
  pub low : IsTrue (is_number least)
  pub high : IsTrue (is_number greatest)
  pub order : least ≤ℤ greatest

-- there is some
pub record IsLong (r : Room) : Type 0 where
  pub under : pos 0 ≤ℤ r.under
  pub over : pos 0 ≤ℤ r.over

-- at each of the numbers from low to high a term with this factor is farther above, or below, what it is at w than there is room
abbrev pub IsAbove : Room → ℤ → ℤ → ℤ → ℤ → Type 0
IsAbove r n w low high = (v : ℤ) → low ≤ℤ v → v ≤ℤ high → (r.under <ℤ most_room) × (((n *ℤ w) +ℤ r.under) <ℤ (n *ℤ v))

abbrev pub IsBelow : Room → ℤ → ℤ → ℤ → ℤ → Type 0
IsBelow r n w low high = (v : ℤ) → low ≤ℤ v → v ≤ℤ high → (r.over <ℤ most_room) × (((n *ℤ v) +ℤ r.over) <ℤ (n *ℤ w))

abbrev pub IsPast : Room → ℤ → ℤ → ℤ → ℤ → Type 0
IsPast r n w low high = IsAbove r n w low high ⊎ IsBelow r n w low high

-- the end at which a term with this factor is least
abbrev pub least_end : ℤ → ℤ → ℤ → ℤ
least_end n least greatest = cond (int_lt n (pos 0)) greatest least

-- the numbers from low to high are at an end of those from least to greatest, and with these and no others a term with this factor is
-- more than s above the least that it can be
pub record IsFar (s n least greatest low high : ℤ) : Type 0 where
  pub end : (low ≡ least) ⊎ (high ≡ greatest)
  pub far : (v : ℤ) → low ≤ℤ v → v ≤ℤ high → (s <ℤ most_room) × (((n *ℤ least_end n least greatest) +ℤ s) <ℤ (n *ℤ v))
  pub near : (v : ℤ) → least ≤ℤ v → v ≤ℤ greatest → IsFalse (is_within low high v) → (n *ℤ v) ≤ℤ ((n *ℤ least_end n least greatest) +ℤ s)
