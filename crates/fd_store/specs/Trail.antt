-- The changes on a trail, and what undoing them gives.
use Rattle.std.specs.Prelude.{◌≡◌, ℕ, List, [], ◌∷◌, ◌++◌, set}
use Rattle.qc_model.specs.Domains.{Box}
use Rattle.fd_store.specs.declared.table.Cell.{Cell}
use Rattle.fd_store.specs.declared.table.Change.{Change}
use Rattle.fd_store.specs.Held.{Held}
use Rattle.fd_store.specs.Places.{box_of}

-- the words and the cells before these changes, the last one undone first
abbrev pub words_before : List Change → List ℕ → List ℕ
words_before [] words = words
words_before (e ∷ es) words = set (words_before es words) e.word e.bits

abbrev pub cells_before : List Change → List Cell → List Cell
cells_before [] cells = cells
cells_before (e ∷ es) cells = set (cells_before es cells) e.var e.cell

abbrev pub box_before : List Change → List ℕ → List Cell → Box
box_before es words cells = box_of (words_before es words) (cells_before es cells)

abbrev pub past_boxes : List Change → List ℕ → List Cell → List Box
past_boxes [] words cells = []
past_boxes (e ∷ es) words cells = box_before (e ∷ es) words cells ∷ past_boxes es words cells

abbrev pub held : List ℕ → List Cell → List Change → ℕ → Held
held words cells trail spare = record { box = box_of words cells; past = past_boxes trail words cells; spare = spare }

-- the changes that lead from the words and cells back to what they were
pub record LeadsBack (words now : List ℕ) (cells then : List Cell) (trail longer : List Change) : Type 0 where
  pub more : List Change
  pub appended : longer ≡ trail ++ more
  pub words_back : words_before more now ≡ words
  pub cells_back : cells_before more then ≡ cells
