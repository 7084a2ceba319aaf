-- How the items of a stack lie in its pages.
use Rattle.std.specs.Prelude.{◌≡◌, ℕ, ◌-◌, ◌<◌, ◌≤◌, ◌*◌, ◌/◌, List, [], ◌∷◌, ◌++◌, length, slice_index_or}

module _ {X : Type 0} where
  -- what the last page holds
  abbrev pub last_of : List (List X) → List X
  last_of pages = slice_index_or pages (length pages - 1) []

  -- the items of the pages, from the first page on
  abbrev pub joined : List (List X) → List X
  joined [] = []
  joined (page ∷ pages) = page ++ joined pages

  -- a page before others is full, and the last is not empty
  abbrev pub IsFilled : List X → List (List X) → Type 0
  IsFilled page [] = (0 < length page) × (length page ≤ 1024)
  IsFilled page (next ∷ pages) = length page ≡ 1024

  -- each page is
  abbrev pub IsPacked : List (List X) → Type 0
  IsPacked [] = Unit {0}
  IsPacked (page ∷ pages) = IsFilled page pages × IsPacked pages

  -- how many of a stack's items lie before its last page
  abbrev pub before_last : List X → ℕ
  before_last items = (length items - 1) / 1024 * 1024
