-- Items that are to differ: where what is left to each ends, and which ranges some of them fill.
use Rattle.std.specs.Prelude.{◌≡◌, ◌≤◌, ◌<◌, ◌⊎◌, ◌+◌, ◌==◌, ℕ, Bool, ◌&&◌, nat_le, List, [], length, get_or, ℤ, pos, ◌+ℤ◌, int_le, int_lt, IsTrue, IsFalse, ⊤}
use Rattle.qc_model.specs.Domains.{Values, least_value, greatest_value}
use Rattle.qc_refuter.specs.Full.{lies_in, held, AreWidest, IsRoomy}
use Rattle.dense_quiet.specs.declared.differing.Ends.{Ends}
use Rattle.dense_quiet.specs.declared.differing.Sight.{Sight}
use Rattle.dense_quiet.specs.declared.differing.Sight.TheVariants.{Quiet, Crowded, Filled, Unknown}

-- counted from the least number that there is, v is the number n
abbrev pub StandsFor : ℕ → ℤ → Type 0
StandsFor n v = pos n ≡ v +ℤ pos 1000000000

pub record AreEndsOf (d : Values) (e : Ends) : Type 0 where
  pub low : StandsFor e.low (least_value d)
  pub high : StandsFor e.high (greatest_value d)

-- place by place
pub record HaveEnds (ds : List Values) (es : List Ends) : Type 0 where
  pub count : length es ≡ length ds
  pub each : (k : ℕ) (e : Ends) → k < length ds → AreEndsOf (get_or ds k []) (get_or es k e)

-- it begins at l or after it, and ends k numbers past l
abbrev pub ends_at : ℕ → ℕ → Ends → Bool
ends_at l k e = nat_le l e.low && (e.high == l + k)

-- v is one of the n numbers from l on
abbrev pub is_among : ℤ → ℕ → ℤ → Bool
is_among l n v = int_le l v && int_lt v (l +ℤ pos n)

-- all that is left to an item lies among them, or neither of its ends does
abbrev pub IsApart : ℤ → ℕ → Values → Type 0
IsApart l n d = IsTrue (lies_in l n d) ⊎ (IsFalse (is_among l n (least_value d)) × IsFalse (is_among l n (greatest_value d)))

-- as with each full range from l on
abbrev pub IsLeftAlone : List Values → ℤ → Values → Type 0
IsLeftAlone ds l d = (n : ℕ) → 0 < n → held ds l n ≡ n → IsApart l n d

-- the ranges from l on have room for the items that lie in them, and the full ones leave all items alone
pub record IsQuiet (ds : List Values) (l : ℤ) : Type 0 where
  pub room : IsRoomy ds l
  pub alone : (k : ℕ) → k < length ds → IsLeftAlone ds l (get_or ds k [])

-- from the least value of each item on
abbrev pub AllQuiet : List Values → Type 0
AllQuiet ds = (k : ℕ) → k < length ds → IsQuiet ds (least_value (get_or ds k []))

-- of the ranges of at most k numbers, all that are full have at most n, and that of n is full
pub record IsRoom (f : ℕ → ℕ) (top k n : ℕ) : Type 0 where
  pub short : n ≤ k
  pub full : f n ≡ n
  pub most : (m : ℕ) → m ≤ k → m ≤ top → f m ≡ m → m ≤ n

-- the widest full ranges from l on
pub record AreRooms (ds : List Values) (l : ℤ) (rooms : List ℕ) (last : ℕ) : Type 0 where
  pub count : length rooms ≡ length ds
  pub widest : AreWidest (held ds l) rooms last

-- P where it is quiet, and Q where it is crowded
abbrev pub Tells : Sight → Type 0 → Type 0 → Type 0
Tells Quiet P Q = P
Tells Crowded P Q = Q
Tells (Filled s) P Q = ⊤
Tells Unknown P Q = ⊤
