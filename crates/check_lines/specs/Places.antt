-- Places that are filled from the first on, as a list that begins with the last one filled.
use Rattle.std.specs.Prelude.{ℕ, zero, suc, None, List, [], ◌∷◌, slice_index_or}
use Rattle.check_lines.specs.declared.open.Open.{Open}
use Rattle.check_lines.specs.declared.open.Open.TheVariants.{Next}

-- the first n places, the last one first
abbrev pub last_first : List Open → ℕ → List Open
last_first places zero = []
last_first places (suc n) = slice_index_or places n (Next None) ∷ last_first places n

-- without the first
abbrev pub rest : List Open → List Open
rest [] = []
rest (f ∷ fs) = fs
