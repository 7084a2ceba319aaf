-- Words for the laws of ranges.
use Rattle.std.specs.Prelude.{◌≡◌, ◌≢◌, ℤ, pos, ◌*ℤ◌, ◌≤ℤ◌, int_div, int_rem}
use Rattle.qc_model.specs.Ranges.{Range, absolute}

-- the number is from one end to the other
pub record LiesWithin (n : ℤ) (r : Range) : Type 0 where
  pub low : r.from ≤ℤ n
  pub high : n ≤ℤ r.to

-- the range has a number
abbrev pub IsSpan : Range → Type 0
IsSpan r = r.from ≤ℤ r.to

-- a product of members, a quotient and a remainder by a member other than 0, the absolute value of a member
abbrev pub IsProductOf : Range → Range → ℤ → Type 0
IsProductOf a b n = (u v : ℤ) × LiesWithin u a × LiesWithin v b × (n ≡ u *ℤ v)

abbrev pub IsQuotientOf : Range → Range → ℤ → Type 0
IsQuotientOf a b n = (u v : ℤ) × LiesWithin u a × LiesWithin v b × (v ≢ pos 0) × (n ≡ int_div u v)

abbrev pub IsRemainderOf : Range → Range → ℤ → Type 0
IsRemainderOf a b n = (u v : ℤ) × LiesWithin u a × LiesWithin v b × (v ≢ pos 0) × (n ≡ int_rem u v)

abbrev pub IsAbsoluteOf : Range → ℤ → Type 0
IsAbsoluteOf a n = (u : ℤ) × LiesWithin u a × (n ≡ absolute u)

-- the ends of a range are such numbers, so no smaller range holds all of them
abbrev pub ReachesEnds : (ℤ → Type 0) → Range → Type 0
ReachesEnds P r = P r.from × P r.to
