-- Nodes in places that are filled from the first on, as a list that begins with the last one filled.
use Rattle.std.specs.Prelude.{◌≡◌, ◌≤◌, ◌<◌, ◌*◌, ◌+◌, ◌⊎◌, ℕ, zero, suc, List, [], ◌∷◌, length, take, drop, slice_index_or, None, ℤ}
use Rattle.qc_check.specs.declared.starts.Start.{Start}

-- a node, and the values of the variables before its scope
pub record StartHeld : Type 0 where
  pub start : Start
  pub values : List ℤ

abbrev pub no_start : Start
no_start = record { at = 0; node = record { scope = 0; horizon = None; depth = 0; turns = 0 }; number = 0; count = 0 }

-- the node in the place n, whose values begin in the place n * width
abbrev pub start_at : List Start → List ℤ → ℕ → ℕ → StartHeld
start_at places values width n = let s = slice_index_or places n no_start in record { start = s; values = take s.count (drop (n * width) values) }

-- the first n places, the last one first
abbrev pub starts_of : List Start → List ℤ → ℕ → ℕ → List StartHeld
starts_of places values width zero = []
starts_of places values width (suc n) = start_at places values width n ∷ starts_of places values width n

-- without the first
abbrev pub rest : List StartHeld → List StartHeld
rest [] = []
rest (s ∷ ss) = ss

-- so many places are filled, and the values of each are there
pub record AreStartPlaces (places : List Start) (values : List ℤ) (width n : ℕ) : Type 0 where
  pub filled : n ≤ length places
  pub each : (k : ℕ) → k < n → (slice_index_or places k no_start).count ≤ width × k * width + (slice_index_or places k no_start).count ≤ length values

-- some of the last of a list
abbrev pub IsTail : List StartHeld → List StartHeld → Type 0
IsTail xs [] = xs ≡ []
IsTail xs (y ∷ ys) = (xs ≡ y ∷ ys) ⊎ IsTail xs ys
