-- How many items lie among the first n numbers from one on, and for which n these numbers are full.
use Rattle.std.specs.Prelude.{◌≡◌, ◌≤◌, ◌<◌, ℕ, Bool, ◌&&◌, List, length, take, sum, get_or, count_by, ℤ, pos, ◌+ℤ◌, int_le, int_lt}
use Rattle.std.specs.Ordering.{int_eq}
use Rattle.qc_model.specs.Domains.{Values, least_value, greatest_value}

-- all that is left to an item lies among the n numbers from l on
abbrev pub lies_in : ℤ → ℕ → Values → Bool
lies_in l n d = int_le l (least_value d) && int_lt (greatest_value d) (l +ℤ pos n)

-- so many items do
abbrev pub held : List Values → ℤ → ℕ → ℕ
held ds l n = count_by (lies_in l n) ds

-- it begins at l or after it, and ends k numbers past l
abbrev pub ends_past : ℤ → ℕ → Values → Bool
ends_past l k d = int_le l (least_value d) && int_eq (greatest_value d) (l +ℤ pos k)

-- the sum of the first n of a list
abbrev pub first_sum : List ℕ → ℕ → ℕ
first_sum ns n = sum (take n ns)

-- where the first n numbers hold f n items: of the first k numbers, the first j are full, and no longer run from the
-- first number on
pub record IsWidest (f : ℕ → ℕ) (k j : ℕ) : Type 0 where
  pub most : j ≤ k
  pub full : f j ≡ j
  pub rest : (n : ℕ) → j < n → n ≤ k → f n < n

-- the widest for each k below the length of the list, and for the length
pub record AreWidest (f : ℕ → ℕ) (widest : List ℕ) (last : ℕ) : Type 0 where
  pub each : (k : ℕ) → k < length widest → IsWidest f k (get_or widest k 0)
  pub whole : IsWidest f (length widest) last

-- no first numbers hold more items than they are
abbrev pub IsRoomy : List Values → ℤ → Type 0
IsRoomy ds l = (n : ℕ) → held ds l n ≤ n
