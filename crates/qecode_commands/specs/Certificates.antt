-- The certificate of a file that is read whole, and what is answered where there is none.
use Rattle.std.specs.Prelude.{◌≡◌, ℕ, ℤ, List, [], ◌++◌, codes, decimal, Option}
use Rattle.proof_tree.specs.declared.tree.Version.{Version}
use Rattle.proof_tree.specs.declared.tree.Outcome.{Outcome}
use Rattle.proof_tree.specs.declared.line.Line.{Line}
use Rattle.proof_tree.specs.Lines.{tree_lines}
use Rattle.proof_tree.specs.Tree.{Tree}
use Rattle.proof_text.specs.declared.fault.CertFault.{CertFault}
use Rattle.proof_text.specs.declared.fault.CertFault.TheVariants.{NotACertificate, TooDeep, Memory as Want}
use Rattle.proof_text.specs.Places.{IsFault}
use Rattle.qc_check.specs.Checking.{IsCertificate}
use Rattle.qc_play.specs.Roots.{IsListed}
use Rattle.qecode_commands.specs.declared.status.Status.{Status}
use Rattle.qecode_commands.specs.declared.status.Status.TheVariants.{BadCertificate, Memory}
use Rattle.qecode_commands.specs.Files.{IsFile, TurnsFileDown}

-- the line of a fault in a certificate's bytes
abbrev pub FaultLine : CertFault → List ℕ → Type 0
FaultLine (NotACertificate at) text = text ≡ codes "bad certificate at " ++ decimal at ++ codes "\n"
FaultLine (TooDeep at) text = text ≡ codes "certificate too deep at " ++ decimal at ++ codes "\n"
FaultLine (Want e) text = ⊥

-- what is answered for a fault
abbrev pub TurnsFaultDown : CertFault → Status → List ℕ → Type 0
TurnsFaultDown (NotACertificate at) status text = (status ≡ BadCertificate) × (text ≡ codes "bad certificate at " ++ decimal at ++ codes "\n")
TurnsFaultDown (TooDeep at) status text = (status ≡ BadCertificate) × (text ≡ codes "certificate too deep at " ++ decimal at ++ codes "\n")
TurnsFaultDown (Want e) status text = (status ≡ Memory) × (text ≡ [])

-- the bytes have this first fault, and the line tells it
pub record IsNoCertificate (bytes text : List ℕ) : Type 0 where
  pub fault : CertFault
  pub is : IsFault fault bytes
  pub line : FaultLine fault text

-- what is answered for bytes that are no certificate's text
abbrev pub TurnsCertificateTextDown : List ℕ → Status → List ℕ → Type 0
TurnsCertificateTextDown bytes BadCertificate text = IsNoCertificate bytes text
TurnsCertificateTextDown bytes Memory text = text ≡ []
TurnsCertificateTextDown bytes status text = ⊥

-- the bytes of the file are no certificate's text
pub record HasNoCertificate (told : Option (List ℕ)) (text : List ℕ) : Type 0 where
  pub bytes : List ℕ
  pub file : IsFile 33554432 told bytes
  pub refused : IsNoCertificate bytes text

-- the same of a certificate's file, also where it can't be had
abbrev pub TurnsCertificateDown : List ℕ → Option (List ℕ) → (ℕ → Type 0) → Status → List ℕ → Type 0
TurnsCertificateDown name told gave BadCertificate text = HasNoCertificate told text
TurnsCertificateDown name told gave status text = TurnsFileDown 33554432 name told gave status text

-- the file has the text of a certificate of this outcome, optimum and tree
pub record IsCertificateOf (told : Option (List ℕ)) (outcome : Outcome) (optimum : Option ℤ) (root : Tree) : Type 0 where
  pub bytes : List ℕ
  pub file : IsFile 33554432 told bytes
  pub version : Version
  pub read : IsCertificate bytes version outcome optimum root

-- and the tree has these lines
pub record HasLinesOf (told : Option (List ℕ)) (outcome : Outcome) (optimum : Option ℤ) (lines : List Line) : Type 0 where
  pub root : Tree
  pub of : IsCertificateOf told outcome optimum root
  pub is : lines ≡ tree_lines root
  pub listed : IsListed outcome lines
