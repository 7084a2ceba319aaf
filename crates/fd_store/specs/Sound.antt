-- What is true of the words and cells of each store, now and at each place of its trail.
use Rattle.std.specs.Prelude.{◌≡◌, ◌≤◌, ◌<◌, ℕ, ◌+◌, ◌-◌, ◌*◌, true, List, length, sum_by, drop, All, slice_index_or, pos, negsuc, ◌+ℤ◌, ◌≤ℤ◌}
use Rattle.fd_store.specs.declared.table.Cell.{Cell}
use Rattle.fd_store.specs.declared.table.Change.{Change}
use Rattle.fd_store.specs.Held.{AgreeApart}
use Rattle.fd_store.specs.Places.{is_set, is_kept, count_below}
use Rattle.fd_store.specs.Trail.{words_before, cells_before, box_before}

-- a cell of these words: the first place and the last that may be left are set, and so many are left
pub record IsCell (words : List ℕ) (c : Cell) : Type 0 where
  pub inside : 64 * c.start + c.width ≤ 64 * length words
  pub narrow : c.width ≤ 1048576
  pub low : negsuc 999999999 ≤ℤ c.base
  pub high : (c.base +ℤ pos c.width) ≤ℤ pos 1000000001
  pub order : c.first ≤ c.end
  pub within : c.end ≤ c.width
  pub first : c.first < c.end → is_set words (64 * c.start + c.first) ≡ true
  pub last : c.first < c.end → is_set words (64 * c.start + (c.end - 1)) ≡ true
  pub size : c.size ≡ count_below (is_kept words c) c.width

-- the places of a cell stand before those of each later one
abbrev pub AreApart : List Cell → Type 0
AreApart cells = (x y : ℕ) (c d : Cell) → x < y → y < length cells → slice_index_or cells x c ≡ c → slice_index_or cells y d ≡ d → 64 * c.start + c.width ≤ 64 * d.start

pub record IsRight (words : List ℕ) (cells : List Cell) : Type 0 where
  pub few : length words ≤ 100000
  pub each : (x : ℕ) (c : Cell) → x < length cells → slice_index_or cells x c ≡ c → IsCell words c
  pub apart : AreApart cells

-- how many values are left to all cells together
abbrev pub cells_left : List Cell → ℕ
cells_left cells = sum_by (λ c. c.size) cells

-- a change of a cell that exists; a word that doesn't exist was not changed
abbrev pub IsPlace : ℕ → Change → Type 0
IsPlace cells e = e.var < cells

pub record IsSound (words : List ℕ) (cells : List Cell) (trail : List Change) : Type 0 where
  pub places : All (IsPlace (length cells)) trail
  pub past : (k : ℕ) → k ≤ length trail → IsRight (words_before (drop k trail) words) (cells_before (drop k trail) cells)
  -- each change took a value at least
  pub few : (k : ℕ) → k ≤ length trail → k + cells_left (cells_before (drop k trail) cells) ≤ cells_left (cells_before trail cells)
  -- and of one variable alone
  pub others : (k : ℕ) (e : Change) → k < length trail → slice_index_or trail k e ≡ e → AgreeApart e.var (box_before (drop k trail) words cells) (box_before (drop (k + 1) trail) words cells)
