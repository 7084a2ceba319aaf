-- The lines of tuples.
use Rattle.std.specs.Prelude.{ℕ, List, [], ◌∷◌, ◌++◌, flat_map, codes, ℤ}
use Rattle.std.specs.Fmt.{signed_decimal}

-- the values, parted by blanks
abbrev pub parted : List ℤ → List ℕ
parted [] = []
parted (v ∷ vs) = signed_decimal v ++ flat_map (λ u. codes " " ++ signed_decimal u) vs

abbrev pub tuple_line : List ℤ → List ℕ
tuple_line t = parted t ++ codes "\n"

-- a line for each tuple
abbrev pub lines_of : List (List ℤ) → List ℕ
lines_of ts = flat_map tuple_line ts
