-- Ascending values, one after the other.
use Rattle.std.specs.Prelude.{◌≡◌, Option, None, Some, [], ◌∷◌, IsTrue, ℤ, int_lt}
use Rattle.std.specs.Ordering.{int_eq}
use Rattle.qc_model.specs.Domains.{Values, has_value, is_single, greatest_value}
use Rattle.fd_store.specs.Held.{values_from}

-- v is the first of the values
pub record IsFirst (vs : Values) (v : ℤ) : Type 0 where
  pub left : IsTrue (has_value vs v)
  pub all : values_from v vs ≡ vs

-- w is the first of the values after v
pub record IsAfter (vs : Values) (v w : ℤ) : Type 0 where
  pub left : IsTrue (has_value vs w)
  pub above : IsTrue (int_lt v w)
  pub rest : values_from v vs ≡ v ∷ values_from w vs

-- what comes after v among the values
abbrev pub IsNext : Values → ℤ → Option ℤ → Type 0
IsNext vs v None = values_from v vs ≡ v ∷ []
IsNext vs v (Some w) = IsAfter vs v w

-- u comes before v among the values, and none between them
pub record IsBefore (vs : Values) (v u : ℤ) : Type 0 where
  pub left : IsTrue (has_value vs u)
  pub after : IsAfter vs u v

-- what comes before v among the values
abbrev pub IsPrevious : Values → ℤ → Option ℤ → Type 0
IsPrevious vs v None = IsFirst vs v
IsPrevious vs v (Some u) = IsBefore vs v u

-- u is the last of the values from each of them on, and alone from itself on
pub record IsLast (vs : Values) (u : ℤ) : Type 0 where
  pub left : IsTrue (has_value vs u)
  pub last : (v : ℤ) → IsTrue (has_value vs v) → greatest_value (values_from v vs) ≡ u
  pub alone : (v : ℤ) → IsTrue (has_value vs v) → is_single (values_from v vs) ≡ int_eq v u
