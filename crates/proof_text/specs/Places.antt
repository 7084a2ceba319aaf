-- Where bytes stop being the text of a certificate.
use Rattle.std.specs.Prelude.{ℕ, ◌+◌, ◌<◌, ◌≤◌, ◌≡◌, ◌⊎◌, List, ◌++◌, length, take, slice_index, Option, ℤ, IsTrue}
use Rattle.proof_text.specs.declared.fault.CertFault.{CertFault}
use Rattle.proof_text.specs.declared.fault.CertFault.TheVariants.{NotACertificate, TooDeep, Memory}
use Rattle.proof_tree.specs.declared.tree.Version.{Version}
use Rattle.proof_tree.specs.declared.tree.Outcome.{Outcome}
use Rattle.proof_tree.specs.Tree.{Tree}
use Rattle.proof_tree.specs.Counts.{depth_of}
use Rattle.proof_tree.specs.Text.{certificate_text, has_text}

-- the bytes are the text of a certificate that is nested at most so deep
abbrev pub IsText : ℕ → List ℕ → Type 0
IsText limit bytes =
    (version : Version) × (outcome : Outcome) × (optimum : Option ℤ) × (t : Tree) × IsTrue (has_text version outcome optimum t) × (depth_of t ≤ limit)
    × (bytes ≡ certificate_text version outcome optimum t)

-- such a text begins with the bytes
abbrev pub BeginsText : ℕ → List ℕ → Type 0
BeginsText limit bytes = (rest : List ℕ) × IsText limit (bytes ++ rest)

-- The bytes are no text, and this is the first place at which it shows: the bytes before it begin a
-- text, and with the byte there they begin none. It is the number of bytes where all of them begin a
-- text. No line before it nests too deep.
pub record IsNotACertificate (at : ℕ) (bytes : List ℕ) : Type 0 where
  pub within : at ≤ length bytes
  pub before : BeginsText 1000 (take at bytes)
  pub here : at < length bytes → (limit : ℕ) → BeginsText limit (take (at + 1) bytes) → ⊥
  pub unfinished : at ≡ length bytes → (limit : ℕ) → IsText limit bytes → ⊥

-- At this place, a `v` or `n` at the beginning of a line, a text goes on deeper than the limit: no
-- text within the limit goes on so, but the bytes before it begin one.
pub record IsTooDeep (at : ℕ) (bytes : List ℕ) : Type 0 where
  pub within : at < length bytes
  pub before : BeginsText 1000 (take at bytes)
  pub opens : BeginsText 1001 (take (at + 1) bytes)
  pub deeper : BeginsText 1000 (take (at + 1) bytes) → ⊥
  pub letter : (slice_index bytes at ≡ 118) ⊎ (slice_index bytes at ≡ 110)

-- the fault is the bytes' first
abbrev pub IsFault : CertFault → List ℕ → Type 0
IsFault (NotACertificate at) bytes = IsNotACertificate at bytes
IsFault (TooDeep at) bytes = IsTooDeep at bytes
IsFault (Memory e) bytes = Unit {0}

-- want of memory
abbrev pub IsWant : CertFault → Type 0
IsWant (NotACertificate at) = ⊥
IsWant (TooDeep at) = ⊥
IsWant (Memory e) = Unit {0}
