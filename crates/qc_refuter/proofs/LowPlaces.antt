-- The least values at which items begin.
use Rattle.std.proofs.Common.{ℕ, ◌<◌, List, length, arith}
use Rattle.qc_refuter.specs.declared.stretches.Ends.{Ends}
use Rattle.qc_refuter.specs.Stretches.{IsPlaced}

-- an item that is placed begins at some least value
pub some_low : (lows : List ℕ) (e : Ends) → IsPlaced lows e → 0 < length lows
some_low lows e p = below p.place (length lows) p.within
  where
    below : (k n : ℕ) → k < n → 0 < n
    below k n h = omega arith
