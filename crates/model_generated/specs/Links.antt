-- The numbers of a made game: three links, and twelve customers who each belong to one of them.
use Rattle.std.specs.Prelude.{◌==◌, ◌+◌, ◌-◌, ◌*◌, ◌%◌, ℕ, suc, zero, cond, List, [], ◌∷◌, map, flat_map, ℤ, pos}

-- how much more than a link itself its customers would pay before they stay away
abbrev pub gap : ℕ → ℕ → ℕ
gap n j = 1 + ((n + 1) * (2 * j + 1)) % 10

-- for how many passages customer k pays
abbrev pub demand : ℕ → ℕ → ℕ
demand n k = 1 + (n + k * k) % 3

-- the link of customer k
abbrev pub link_of : ℕ → ℕ
link_of k = 1 + (k - 1) % 3

-- what link j costs customer k besides its toll: its own link is cheaper than 10 by the gap, the other two are dear
abbrev pub base : ℕ → ℕ → ℕ → ℕ
base n k j = cond (j == link_of k) (10 - gap n j) 20

-- the same of the three links, and the 10 of staying away
abbrev pub bases_of : ℕ → ℕ → List ℤ
bases_of n k = pos (base n k 1) ∷ pos (base n k 2) ∷ pos (base n k 3) ∷ pos 10 ∷ []

-- the numbers from k on, so many
abbrev pub counted_from : ℕ → ℕ → List ℕ
counted_from k zero = []
counted_from k (suc count) = k ∷ counted_from (k + 1) count

abbrev pub customers : List ℕ
customers = counted_from 1 12

abbrev pub bases : ℕ → List ℤ
bases n = flat_map (bases_of n) customers

abbrev pub demands : ℕ → List ℤ
demands n = map (λ k. pos (demand n k)) customers
