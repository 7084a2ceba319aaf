-- What was read of a certificate's text so far, and the certificate that it is of.
use Rattle.std.specs.Prelude.{◌≡◌, ◌≤◌, ℕ, ℤ, Option, Some, None, List, length}
use Rattle.proof_tree.specs.declared.line.Line.{Line}
use Rattle.proof_tree.specs.declared.tree.Outcome.{Outcome}
use Rattle.proof_tree.specs.declared.tree.Version.{Version}
use Rattle.proof_tree.specs.Lines.{tree_lines}
use Rattle.proof_tree.specs.Tree.{Tree}
use Rattle.proof_text.specs.Answers.{Told, nothing, headed, StandsFor}
use Rattle.proof_text.specs.Places.{BeginsText}
use Rattle.qc_check.specs.Checking.{IsCertificate, lines_told}
use Rattle.qc_play.specs.declared.read.Head.{Head}
use Rattle.qc_play.specs.declared.read.Listing.{Listing}
use Rattle.qc_play.specs.Roots.{IsListed}

-- the head that was told, if it was
abbrev pub IsHeadOf : Option Head → Told → Type 0
IsHeadOf None told = told ≡ nothing
IsHeadOf (Some h) told = (version : Version) × (lines : List Line) × (told ≡ headed version h.outcome h.optimum lines)

-- the bytes begin a text, and its head and its whole lines are kept, of which there are no more than bytes
pub record IsListing (l : Listing) (bytes : List ℕ) : Type 0 where
  pub told : Told
  pub stands : StandsFor l.reader bytes told
  pub begins : BeginsText 1000 bytes
  pub head : IsHeadOf l.head told
  pub lines : l.lines.items ≡ lines_told told
  pub few : length l.lines.items ≤ length bytes

-- the bytes are the text of the certificate of this outcome and optimum whose tree has these lines
pub record IsReadFrom (bytes : List ℕ) (outcome : Outcome) (optimum : Option ℤ) (lines : List Line) : Type 0 where
  pub version : Version
  pub root : Tree
  pub read : IsCertificate bytes version outcome optimum root
  pub is : lines ≡ tree_lines root
  pub listed : IsListed outcome lines
