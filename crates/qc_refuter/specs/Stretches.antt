-- Items that each take a number of their own: what is free, and how far those reach that took one.
use Rattle.std.specs.Prelude.{◌≡◌, ◌≤◌, ◌<◌, ◌+◌, ℕ, max, Bool, ◌&&◌, nat_le, List, length, get_or, pos, ◌+ℤ◌}
use Rattle.qc_model.specs.Domains.{Values, least_value, greatest_value}
use Rattle.qc_refuter.specs.declared.stretches.Ends.{Ends}

-- the item lies among the numbers from l to h
abbrev pub lies : ℕ → ℕ → Ends → Bool
lies l h e = nat_le l e.low && nat_le e.high h

-- where the values end, counted from the least number that there is
pub record AreEndsOf (d : Values) (e : Ends) : Type 0 where
  pub low : pos e.low ≡ least_value d +ℤ pos 1000000000
  pub high : pos e.high ≡ greatest_value d +ℤ pos 1000000000

-- the item begins at one of the least values, and ends nowhere before that
pub record IsPlaced (lows : List ℕ) (e : Ends) : Type 0 where
  pub place : ℕ
  pub within : place < length lows
  pub begins : get_or lows place 0 ≡ e.low
  pub order : e.low ≤ e.high
  pub small : e.high ≤ 2000000000

-- a full stretch leads on to a later one, and those between are full
pub record AreSkips (free skips : List ℕ) : Type 0 where
  pub same : length skips ≡ length free
  pub later : (k : ℕ) → k < length free → k < get_or skips k 0
  pub most : (k : ℕ) → k < length free → get_or skips k 0 ≤ length free
  pub full : (k i : ℕ) → k < length free → k < i → i < get_or skips k 0 → get_or free i 0 ≡ 0

-- the first place from one on at which something is free, or the length where there is none
pub record IsNextOpen (free : List ℕ) (from found : ℕ) : Type 0 where
  pub least : from ≤ found
  pub most : found ≤ length free
  pub full : (k : ℕ) → from ≤ k → k < found → get_or free k 0 ≡ 0
  pub left : found < length free → 0 < get_or free found 0

-- the stretch with the least free number from low on
pub record IsStretch (lows free : List ℕ) (low found : ℕ) : Type 0 where
  pub start : ℕ
  pub some : 0 < start
  pub upto : (k : ℕ) → k < start → get_or lows k 0 ≤ low
  pub above : (k : ℕ) → start ≤ k → k < length lows → low < get_or lows k 0
  pub next : IsNextOpen free start found

-- where an item comes in that begins at low, one more begins at each number up to it
pub record IsOneMore (low : ℕ) (c more : ℕ → ℕ) : Type 0 where
  pub upto : (l : ℕ) → l ≤ low → more l ≡ c l + 1
  pub above : (l : ℕ) → low < l → more l ≡ c l

-- a least value, and as many numbers more as items that begin from it on
abbrev pub filled : List ℕ → (ℕ → ℕ) → ℕ → ℕ
filled lows c k = get_or lows k 0 + c (get_or lows k 0)

-- what is free of each stretch once some items took numbers: c l of them begin at l or after it, and none ends after last.
-- The reach of a place is the greatest of what is filled from the least values up to there. From place to place it goes on
-- by what is free between them, at the last place it is top, and only a least value takes it past the last end
pub record HasRoom (lows free : List ℕ) (c : ℕ → ℕ) (last top : ℕ) : Type 0 where
  pub reach : ℕ → ℕ
  pub steps : (k : ℕ) → k + 1 < length lows → reach (k + 1) ≡ reach k + get_or free (k + 1) 0
  pub ends : (k : ℕ) → k + 1 ≡ length lows → reach k ≡ top
  pub covers : (k : ℕ) → k < length lows → filled lows c k ≤ reach k
  pub met : (k : ℕ) → k < length lows → (i : ℕ) × (i ≤ k) × (reach k ≡ filled lows c i)
  pub within : (k : ℕ) → k < length lows → reach k ≤ max (last + 1) (get_or lows k 0)
