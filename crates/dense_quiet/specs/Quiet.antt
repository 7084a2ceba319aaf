-- Constraints of two or three arguments that refute nothing that they may take.
use Rattle.std.specs.Prelude.{ℕ, Bool, not, List, [], ◌∷◌, ℤ, pos, ◌-◌, cond, Option, None, slice_get, unsigned_abs, int_lt, int_le, IsTrue, IsFalse}
use Rattle.qc_model.specs.declared.problem.Arg.{Arg}
use Rattle.qc_model.specs.Domains.{Values, Box, least_value, greatest_value}
use Rattle.qc_model.specs.Left.{span, some_item_in}
use Rattle.qc_model.specs.Meaning.{Meaning, at_most, below, plus, times, smaller, greater}
use Rattle.qc_model.specs.Ranges.{Range, range_of, point, ranges_miss, range_sum, product, smaller_range, greater_range}
use Rattle.qc_model.specs.Refuted.{left_to}
use Rattle.dense_quiet.specs.declared.ends.Ends.{Ends}
use Rattle.dense_quiet.specs.declared.relating.Reach.{Reach}
use Rattle.dense_quiet.specs.declared.relating.Relation.{Relation}
use Rattle.dense_quiet.specs.declared.relating.Relation.TheVariants.{AtMost, Below, Sum, Product, Lesser, Greater}
use Rattle.dense_quiet.specs.Slack.{is_taken}

abbrev pub range_in : Ends → Range
range_in e = range_of e.least e.greatest

abbrev pub reach : Reach → Range
reach r = range_of r.from r.to

-- the test fails at both ends
pub record FailsAtEnds (test : Values → Bool) (d : Values) : Type 0 where
  pub least : IsFalse (test (least_value d ∷ []))
  pub greatest : IsFalse (test (greatest_value d ∷ []))

pub record FailsAtPoints (test : Range → Bool) (r : Range) : Type 0 where
  pub least : IsFalse (test (point r.from))
  pub greatest : IsFalse (test (point r.to))

-- what refutes two arguments fails for what is left to them, and at each end of one that may be taken
pub record SparesTwo (test : Values → Values → Bool) (ok : ℕ → Bool) (a b : Arg) (box : Box) : Type 0 where
  pub whole : IsFalse (test (left_to box a) (left_to box b))
  pub first : IsTrue (is_taken ok a) → FailsAtEnds (λ d. test d (left_to box b)) (left_to box a)
  pub second : IsTrue (is_taken ok b) → FailsAtEnds (λ d. test (left_to box a) d) (left_to box b)

-- the same for three
pub record SparesThree (test : Values → Values → Values → Bool) (ok : ℕ → Bool) (a b c : Arg) (box : Box) : Type 0 where
  pub whole : IsFalse (test (left_to box a) (left_to box b) (left_to box c))
  pub first : IsTrue (is_taken ok a) → FailsAtEnds (λ d. test d (left_to box b) (left_to box c)) (left_to box a)
  pub second : IsTrue (is_taken ok b) → FailsAtEnds (λ d. test (left_to box a) d (left_to box c)) (left_to box b)
  pub third : IsTrue (is_taken ok c) → FailsAtEnds (λ d. test (left_to box a) (left_to box b) d) (left_to box c)

-- what refutes a relation by the ranges of what is left
abbrev pub refuted_in : Relation → Range → Range → Range → Bool
refuted_in AtMost a b c = int_lt b.to a.from
refuted_in Below a b c = int_le b.to a.from
refuted_in Sum a b c = ranges_miss (range_sum a b) c
refuted_in Product a b c = ranges_miss (product a b) c
refuted_in Lesser a b c = ranges_miss (smaller_range a b) c
refuted_in Greater a b c = ranges_miss (greater_range a b) c

-- the meaning that says so
abbrev pub meaning_in : Relation → Meaning
meaning_in AtMost = at_most
meaning_in Below = below
meaning_in Sum = plus
meaning_in Product = times
meaning_in Lesser = smaller
meaning_in Greater = greater

-- a test of ranges, for values
abbrev pub by_spans : (Range → Range → Range → Bool) → Values → Values → Values → Bool
by_spans test d e f = test (span d) (span e) (span f)

-- what refutes that the number of an array at place b, counted from 1, is c
abbrev pub misses_number : List ℤ → Values → Values → Bool
misses_number ns b c = not (some_item_in (pos 1) b ns c)

-- the item of an array at a place, counted from 1
abbrev pub item_at : List Arg → ℤ → Option Arg
item_at xs p = cond (int_lt p (pos 1)) None (slice_get xs (unsigned_abs p - 1))
