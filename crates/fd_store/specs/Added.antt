-- How a declared domain is written as words and a cell.
use Rattle.std.specs.Prelude.{◌≡◌, ◌≤◌, ◌<◌, ℕ, ◌+◌, ◌*◌, ◌/◌, List, length, slice_index}
use Rattle.qc_model.specs.Domains.{Values}
use Rattle.fd_store.specs.declared.table.Cell.{Cell}
use Rattle.fd_store.specs.Places.{is_set, cell_values}
use Rattle.fd_store.specs.Sound.{IsCell}

-- n more words, each the same
pub record IsLonger (words now : List ℕ) (n word : ℕ) : Type 0 where
  pub long : length now ≡ length words + n
  pub before : (w : ℕ) → w < length words → slice_index now w ≡ slice_index words w
  pub added : (w : ℕ) → length words ≤ w → w < length now → slice_index now w ≡ word

-- the values stand in a new cell, whose n bits lie in new words
pub record AddsCell (words now : List ℕ) (c : Cell) (n : ℕ) (vs : Values) : Type 0 where
  pub long : length now ≡ length words + (n + 63) / 64
  pub before : (p : ℕ) → p < 64 * length words → is_set now p ≡ is_set words p
  pub start : c.start ≡ length words
  pub cell : IsCell now c
  pub values : cell_values now c ≡ vs
