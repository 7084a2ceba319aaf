-- Where bytes stop being the text of a list.
use Rattle.std.specs.Prelude.{ℕ, ◌+◌, ◌<◌, ◌≤◌, ◌≡◌, ◌⊎◌, List, ◌++◌, length, take, IsTrue}
use Rattle.qc_model.specs.declared.problem.Kind.{Kind}
use Rattle.lemma_list.specs.Lemmas.{Entry}
use Rattle.lemma_text.specs.Text.{list_text}
use Rattle.lemma_text.specs.Ranges.{has_text}

-- the bytes are the text of a list
abbrev pub IsText : List ℕ → Type 0
IsText bytes = (loser : Kind) × (entries : List Entry) × IsTrue (has_text entries) × (bytes ≡ list_text loser entries)

-- such a text begins with the bytes
abbrev pub BeginsText : List ℕ → Type 0
BeginsText bytes = (rest : List ℕ) × IsText (bytes ++ rest)

-- The bytes are no text, and this is the first place at which it shows: the bytes before it begin a text, and with the
-- byte there they begin none. It is the number of bytes where all of them begin a text.
pub record IsFault (place : ℕ) (bytes : List ℕ) : Type 0 where
  pub within : place ≤ length bytes
  pub before : BeginsText (take place bytes)
  pub here : place < length bytes → BeginsText (take (place + 1) bytes) → ⊥
  pub unfinished : place ≡ length bytes → IsText bytes → ⊥

-- bytes are a text or have a fault, never both ..
abbrev pub IsTextOrFault : Type 0
IsTextOrFault = (bytes : List ℕ) → IsText bytes ⊎ ((place : ℕ) × IsFault place bytes)

abbrev pub NeverBoth : Type 0
NeverBoth = (bytes : List ℕ) (place : ℕ) → IsText bytes → IsFault place bytes → ⊥

-- .. they are the text of one list, and have one fault
abbrev pub IsOneList : Type 0
IsOneList = (bytes : List ℕ) (p q : IsText bytes) → (p.0 ≡ q.0) × (p.1 ≡ q.1)

abbrev pub IsOneFault : Type 0
IsOneFault = (bytes : List ℕ) (place other : ℕ) → IsFault place bytes → IsFault other bytes → place ≡ other
