-- Where bytes stop being the text of a certificate.
use Rattle.std.specs.Prelude.{ℕ, ◌+◌, ◌<◌, ◌≤◌, ◌≡◌, ◌⊎◌, Option, List, ◌++◌, length, take, IsTrue, ℤ}
use Rattle.proof_tree.specs.declared.tree.Outcome.{Outcome}
use Rattle.dense_tree.specs.Tree.{Certificate}
use Rattle.dense_tree.specs.Text.{certificate_text, has_text}

-- the bytes are the text of a certificate
abbrev pub IsText : List ℕ → Type 0
IsText bytes = (outcome : Outcome) × (optimum : Option ℤ) × (c : Certificate) × IsTrue (has_text outcome optimum c) × (bytes ≡ certificate_text outcome optimum c)

-- such a text begins with the bytes
abbrev pub BeginsText : List ℕ → Type 0
BeginsText bytes = (rest : List ℕ) × IsText (bytes ++ rest)

-- The bytes are no text, and this is the first place at which it shows: the bytes before it begin a text, and with the
-- byte there they begin none. It is the number of bytes where all of them begin a text.
pub record IsFault (place : ℕ) (bytes : List ℕ) : Type 0 where
  pub within : place ≤ length bytes
  pub before : BeginsText (take place bytes)
  pub here : place < length bytes → BeginsText (take (place + 1) bytes) → ⊥
  pub unfinished : place ≡ length bytes → IsText bytes → ⊥

-- bytes are a text or have a fault, never both ..
abbrev pub IsTextOrFault : Type 0
IsTextOrFault = (bytes : List ℕ) → IsText bytes ⊎ ((place : ℕ) × IsFault place bytes)

abbrev pub NeverBoth : Type 0
NeverBoth = (bytes : List ℕ) (place : ℕ) → IsText bytes → IsFault place bytes → ⊥

-- .. they are the text of one certificate, and have one fault
abbrev pub IsOneCertificate : Type 0
IsOneCertificate = (bytes : List ℕ) (p q : IsText bytes) → (p.0 ≡ q.0) × (p.1 ≡ q.1) × (p.2 ≡ q.2)

abbrev pub IsOneFault : Type 0
IsOneFault = (bytes : List ℕ) (place other : ℕ) → IsFault place bytes → IsFault other bytes → place ≡ other
