-- Full ranges that leave the ends of all items alone.
use Rattle.std.specs.Prelude.{◌≡◌, ◌<◌, ◌⊎◌, ℕ, Bool, ◌&&◌, List, [], length, get_or, ℤ, pos, ◌+ℤ◌, int_le, int_lt, IsTrue, IsFalse}
use Rattle.qc_model.specs.Domains.{Values, least_value, greatest_value}
use Rattle.qc_refuter.specs.Full.{lies_in, held, IsRoomy}

-- v is one of the n numbers from l on
abbrev pub is_among : ℤ → ℕ → ℤ → Bool
is_among l n v = int_le l v && int_lt v (l +ℤ pos n)

-- all that is left to an item lies among them, or neither of its ends does
abbrev pub IsApart : ℤ → ℕ → Values → Type 0
IsApart l n d = IsTrue (lies_in l n d) ⊎ (IsFalse (is_among l n (least_value d)) × IsFalse (is_among l n (greatest_value d)))

-- the ranges from l on have room for the items that lie in them, and those that are full are apart from the others
pub record IsQuiet (ds : List Values) (l : ℤ) : Type 0 where
  pub room : IsRoomy ds l
  pub apart : (n : ℕ) → 0 < n → held ds l n ≡ n → (k : ℕ) → k < length ds → IsApart l n (get_or ds k [])

-- from the least value of each item on
abbrev pub AllQuiet : List Values → Type 0
AllQuiet ds = (k : ℕ) → k < length ds → IsQuiet ds (least_value (get_or ds k []))

-- from that of the item at a place on, if from those of the items before it
abbrev pub IsQuietNext : List Values → ℕ → Type 0
IsQuietNext ds k =
    ((j : ℕ) → j < k → IsQuiet ds (least_value (get_or ds j []))) → IsQuiet ds (least_value (get_or ds k []))
