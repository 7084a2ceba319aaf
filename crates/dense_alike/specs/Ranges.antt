-- Boxes as ranges of values that stand in a row.
use Rattle.std.specs.Prelude.{◌≡◌, ◌≤◌, ◌<◌, ℕ, zero, suc, ◌+◌, ◌-◌, List, [], ◌∷◌, ◌++◌, take, drop, length, flat_map, ℤ, ◌-ℤ◌, ◌≤ℤ◌, nat_abs, true}
use Rattle.qc_model.specs.Lists.{numbers_from}
use Rattle.qc_model.specs.Domains.{Box, Values, box_values, greatest_value, has_value, is_single, least_value, values_left}
use Rattle.dense_alike.specs.declared.range.Range.{Range}

-- the values from first to last
abbrev pub run : ℤ → ℤ → Values
run first last = numbers_from first (nat_abs (last -ℤ first) + 1)

abbrev pub range_values : Range → Values
range_values r = run r.first r.last

-- the values of all these ranges
abbrev pub values_of : List Range → Values
values_of rs = flat_map range_values rs

-- the domains whose ranges end at these places, where those of the first domain begin at from
abbrev pub domains : List Range → ℕ → List ℕ → Box
domains rs from [] = []
domains rs from (e ∷ es) = values_of (take (e - from) (drop from rs)) ∷ domains rs e es

-- the places rise from the first number to the last
abbrev pub Rises : ℕ → List ℕ → ℕ → Type 0
Rises from [] last = from ≡ last
Rises from (e ∷ es) last = (from ≤ e) × Rises e es last

-- where the ranges of a variable begin, where those of the first begin at from
abbrev pub start_of : ℕ → List ℕ → ℕ → ℕ
start_of from es zero = from
start_of from [] (suc x) = from
start_of from (e ∷ es) (suc x) = start_of e es x

-- each of the first n variables has one value
abbrev pub AreSingle : Box → ℕ → Type 0
AreSingle box n = (x : ℕ) → x < n → is_single (values_left box x) ≡ true

-- ranges, where those of each variable end, the least value of each, and how many from the first on have one value
pub record AreKept (rs : List Range) (ends : List ℕ) (least : List ℤ) (fixed : ℕ) : Type 0 where
  pub rises : Rises 0 ends (length rs)
  pub values : least ≡ box_values (domains rs 0 ends)
  pub first : AreSingle (domains rs 0 ends) fixed

-- the ranges of these values were appended
pub record AddsValues (old new : List Range) (vs : Values) : Type 0 where
  pub more : List Range
  pub appended : new ≡ old ++ more
  pub values : values_of more ≡ vs

-- all values from the least to the greatest are among these
abbrev pub IsRow : Values → Type 0
IsRow d = (w : ℤ) → least_value d ≤ℤ w → w ≤ℤ greatest_value d → has_value d w ≡ true
