-- What a step of a removal does to the words, the cells and the trail.
use Rattle.std.specs.Prelude.{◌≡◌, ◌≤◌, ℕ, ◌+◌, ◌==◌, cond, length, ℤ}
use Rattle.qc_model.specs.Domains.{Box, values_left, box_without}
use Rattle.fd_store.specs.declared.answer.Removed.{Removed}
use Rattle.fd_store.specs.declared.answer.Removed.TheVariants.{Nothing, Emptied, Some}
use Rattle.fd_store.specs.declared.table.Cell.{Cell}
use Rattle.fd_store.specs.declared.table.Table.{Table}
use Rattle.fd_store.specs.Places.{box_of}
use Rattle.fd_store.specs.Trail.{LeadsBack}
use Rattle.fd_store.specs.Sound.{IsSound}

abbrev pub box_in : Table → Box
box_in t = box_of t.words.items t.cells.items

abbrev pub IsSoundTable : Table → Type 0
IsSoundTable t = IsSound t.words.items t.cells.items t.trail.items

-- u is t without the values of x from lo to hi, with a longer trail that leads back to t
pub record Takes (x : ℕ) (lo hi : ℤ) (t u : Table) : Type 0 where
  pub sound : IsSoundTable u
  pub content : box_in u ≡ box_without (box_in t) x lo hi
  pub back : LeadsBack t.words.items u.words.items t.cells.items u.cells.items t.trail.items u.trail.items
  pub spare : u.trail.spare + length u.trail.items ≡ t.trail.spare + length t.trail.items
  -- no more places than values that went
  pub few : length u.trail.items + length (values_left (box_in u) x) ≤ length t.trail.items + length (values_left (box_in t) x)

-- what became of so many values, where so many are left
abbrev pub removed_of : ℕ → ℕ → Removed
removed_of before left = cond (before == left) Nothing (cond (left == 0) Emptied Some)

-- the same places of the same values, but for how many are left
pub record SameEnds (c d : Cell) : Type 0 where
  pub base : d.base ≡ c.base
  pub start : d.start ≡ c.start
  pub width : d.width ≡ c.width
  pub first : d.first ≡ c.first
  pub end : d.end ≡ c.end
