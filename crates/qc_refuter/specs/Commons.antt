-- Values that two arguments have in common, from a number on and up to it.
use Rattle.std.specs.Prelude.{◌≡◌, ℤ, ◌≤ℤ◌, ◌<ℤ◌, IsTrue}
use Rattle.qc_model.specs.Domains.{Values, has_value}

-- the least value from v on that the first has, where the second has one before it: all common values from v on are from w on
pub record IsNext (d e : Values) (v w : ℤ) : Type 0 where
  pub there : IsTrue (has_value d w)
  pub up : v ≤ℤ w
  pub all : (u : ℤ) → IsTrue (has_value d u) → IsTrue (has_value e u) → v ≤ℤ u → w ≤ℤ u
  pub common : v ≡ w → IsTrue (has_value e w)

pub record IsPrevious (d e : Values) (v w : ℤ) : Type 0 where
  pub there : IsTrue (has_value d w)
  pub down : w ≤ℤ v
  pub all : (u : ℤ) → IsTrue (has_value d u) → IsTrue (has_value e u) → u ≤ℤ v → u ≤ℤ w
  pub common : v ≡ w → IsTrue (has_value e w)

-- common values lie below v, and above it
abbrev pub AllBelow : Values → Values → ℤ → Type 0
AllBelow d e v = (u : ℤ) → IsTrue (has_value d u) → IsTrue (has_value e u) → u <ℤ v

abbrev pub AllAbove : Values → Values → ℤ → Type 0
AllAbove d e v = (u : ℤ) → IsTrue (has_value d u) → IsTrue (has_value e u) → v <ℤ u

-- the least and the greatest common value
pub record IsLeastCommon (d e : Values) (v : ℤ) : Type 0 where
  pub first : IsTrue (has_value d v)
  pub second : IsTrue (has_value e v)
  pub all : (u : ℤ) → IsTrue (has_value d u) → IsTrue (has_value e u) → v ≤ℤ u

pub record IsGreatestCommon (d e : Values) (v : ℤ) : Type 0 where
  pub first : IsTrue (has_value d v)
  pub second : IsTrue (has_value e v)
  pub all : (u : ℤ) → IsTrue (has_value d u) → IsTrue (has_value e u) → u ≤ℤ v
