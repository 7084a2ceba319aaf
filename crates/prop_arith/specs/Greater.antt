-- The greater of two integers, and the numbers that each of the three may keep.
use Rattle.std.specs.Prelude.{◌≡◌, Bool, ◌||◌, cond, length, ℕ, ℤ, pos, negsuc, ◌-ℤ◌, ◌≤ℤ◌, ◌<ℤ◌, int_lt, int_le, IsTrue, IsFalse}
use Rattle.std.specs.Int.{int_max}
use Rattle.qc_model.specs.declared.problem.Pred.TheVariants.{IntMax}
use Rattle.qc_model.specs.Closed.{refutes_at, keeps_ends}
use Rattle.qc_model.specs.Content.{Rule}
use Rattle.qc_model.specs.Domains.{Values, Box, values_left, values_within, box_within, is_none_left, least_value, greatest_value}
use Rattle.qc_model.specs.Left.{span}
use Rattle.qc_model.specs.Ranges.{ranges_miss, greater_range}
use Rattle.qc_model.specs.Refuted.{left_to, refuted_by}
use Rattle.qc_model.specs.Valid.{is_number}
use Rattle.model_arguments.specs.Repeats.{same_variable}
use Rattle.model_arguments.specs.Written.{arg_at}
use Rattle.qc_refuter.specs.Met.{is_open}
use Rattle.prop_base.specs.Closed.{keeps_arg}
use Rattle.prop_arith.specs.declared.greater.Ends.{Ends}
use Rattle.prop_arith.specs.declared.greater.Greater.{Greater}

-- some two of the three are the same variable
abbrev pub has_twice : Greater → Bool
has_twice t = same_variable t.first t.second || (same_variable t.first t.third || same_variable t.second t.third)

-- some number between the least value and the greatest is none of the values, which ascend
abbrev pub misses_some : Values → Bool
misses_some d = int_le (pos (length d)) (greatest_value d -ℤ least_value d)

-- a constraint that the third is the greater of the first two, none of which stands twice
pub record IsGreaterRule (t : Greater) (c : Rule) : Type 0 where
  pub pred : c.pred ≡ IntMax
  pub first : t.first ≡ arg_at c.args 0
  pub second : t.second ≡ arg_at c.args 1
  pub third : t.third ≡ arg_at c.args 2
  pub once : IsFalse (has_twice t)

-- by their ends, no value of the last is the greater of one of the first and one of the second
abbrev pub has_no_greater : Values → Values → Values → Bool
has_no_greater d e f = ranges_miss (greater_range (span d) (span e)) (span f)

-- so it refutes, and the three alone decide whether it keeps its ends
pub record IsGreater (c : Rule) (t : Greater) : Type 0 where
  pub once : IsFalse (has_twice t)
  pub refuted : (box : Box) → refuted_by c box ≡ has_no_greater (left_to box t.first) (left_to box t.second) (left_to box t.third)
  pub own : (box : Box) → IsTrue (keeps_arg c box t.first) → IsTrue (keeps_arg c box t.second) → IsTrue (keeps_arg c box t.third) → IsTrue (keeps_ends box c)

-- some values are left to each
pub record AreOpen (box : Box) (t : Greater) : Type 0 where
  pub first : IsTrue (is_open box t.first)
  pub second : IsTrue (is_open box t.second)
  pub third : IsTrue (is_open box t.third)

abbrev pub ends_left : Values → Ends
ends_left d = record { least = least_value d; greatest = greatest_value d }

-- the ends of the greater of two
abbrev pub greater_ends : Ends → Ends → Ends
greater_ends a b = record { least = int_max a.least b.least; greatest = int_max a.greatest b.greatest }

-- they share no number
abbrev pub ends_miss : Ends → Ends → Bool
ends_miss a b = int_lt a.greatest b.least || int_lt b.greatest a.least

-- what one of the first two may keep beside the other and the third: all up to the third's greatest, but none below its
-- least where the other can't reach that
abbrev pub ends_beside : Ends → Ends → Ends
ends_beside other third = record { least = cond (int_lt other.greatest third.least) third.least (negsuc 999999999); greatest = third.greatest }

-- all values of x below low and all above high are refuted; where there are none of these, neither end of x is
pub record IsHull (c : Rule) (box : Box) (x : ℕ) (low high : ℤ) : Type 0 where
  pub small_low : IsTrue (is_number low)
  pub small_high : IsTrue (is_number high)
  pub below : (l h : ℤ) → IsFalse (is_none_left (values_within l h (values_left box x))) → h <ℤ low → IsTrue (refuted_by c (box_within box x l h))
  pub above : (l h : ℤ) → IsFalse (is_none_left (values_within l h (values_left box x))) → high <ℤ l → IsTrue (refuted_by c (box_within box x l h))
  pub first : low ≤ℤ least_value (values_left box x) → greatest_value (values_left box x) ≤ℤ high → IsFalse (refutes_at c box x (least_value (values_left box x)))
  pub last : low ≤ℤ least_value (values_left box x) → greatest_value (values_left box x) ≤ℤ high → IsFalse (refutes_at c box x (greatest_value (values_left box x)))
