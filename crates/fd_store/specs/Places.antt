-- How words of bits stand for values.
use Rattle.std.specs.Prelude.{ℕ, zero, suc, ◌+◌, ◌*◌, ◌/◌, ◌%◌, ◌==◌, Bool, ◌&&◌, nat_le, nat_lt, cond, List, [], ◌∷◌, ◌++◌, map, slice_index, ℤ, pos, ◌+ℤ◌}
use Rattle.std.specs.Int.{bit_at}
use Rattle.qc_model.specs.Domains.{Box, Values}
use Rattle.fd_store.specs.declared.table.Cell.{Cell}

-- the bit at place p, counted over all words
abbrev pub is_set : List ℕ → ℕ → Bool
is_set words p = bit_at (slice_index words (p / 64)) (p % 64) == 1

-- k is from a up to e
abbrev pub is_inside : ℕ → ℕ → ℕ → Bool
is_inside a e k = nat_le a k && nat_lt k e

-- the k-th value of a cell is left
abbrev pub is_kept : List ℕ → Cell → ℕ → Bool
is_kept words c k = is_inside c.first c.end k && is_set words (64 * c.start + k)

-- the values v + k whose k passes, below n
abbrev pub values_below : (ℕ → Bool) → ℤ → ℕ → Values
values_below f v zero = []
values_below f v (suc n) = values_below f v n ++ cond (f n) ((v +ℤ pos n) ∷ []) []

-- how many k pass, below n
abbrev pub count_below : (ℕ → Bool) → ℕ → ℕ
count_below f zero = 0
count_below f (suc n) = count_below f n + cond (f n) 1 0

-- how many bits of a word from a up to e are set
unfoldable pub count_of_word : ℕ → ℕ → ℕ → ℕ
count_of_word word a e = count_below (λ i. (bit_at word i == 1) && is_inside a e i) 64

abbrev pub cell_values : List ℕ → Cell → Values
cell_values words c = values_below (is_kept words c) c.base c.width

abbrev pub box_of : List ℕ → List Cell → Box
box_of words cells = map (cell_values words) cells
