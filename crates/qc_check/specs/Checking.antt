-- What a checker is after some bytes, and what it says of them.
use Rattle.std.specs.Prelude.{◌≡◌, ◌≤◌, ◌<◌, ℕ, List, [], ◌++◌, length, Option, Some, None, ℤ, IsTrue}
use Rattle.qc_model.specs.Content.{Game}
use Rattle.proof_tree.specs.declared.tree.Version.{Version}
use Rattle.proof_tree.specs.declared.tree.Outcome.{Outcome}
use Rattle.proof_tree.specs.declared.line.Line.{Line}
use Rattle.proof_tree.specs.Tree.{Tree}
use Rattle.proof_tree.specs.Counts.{depth_of}
use Rattle.proof_tree.specs.Proves.{proves}
use Rattle.proof_tree.specs.Meaning.{OutcomeMeans}
use Rattle.proof_tree.specs.Text.{certificate_text, has_text}
use Rattle.proof_text.specs.Answers.{Told, nothing, headed, StandsFor}
use Rattle.proof_text.specs.Places.{BeginsText, IsNotACertificate, IsTooDeep}
use Rattle.proof_text.specs.Readings.{Reading}
use Rattle.check_lines.specs.declared.machine.Machine.{Machine}
use Rattle.check_lines.specs.LedgerHeld.{first_ledger, goes_through}
use Rattle.check_lines.specs.Machine.{game_of}
use Rattle.check_lines.specs.Telling.{TellsAfter}
use Rattle.qc_check.specs.declared.stated.Stated.{Stated}
use Rattle.qc_check.specs.declared.stated.Stop.{Stop}
use Rattle.qc_check.specs.declared.stated.Stop.TheVariants.{Bad, Deep}
use Rattle.qc_check.specs.declared.progress.Checker.{Checker}
use Rattle.qc_check.specs.declared.finding.Fed.{Fed}
use Rattle.qc_check.specs.declared.finding.Fed.TheVariants.{More as FedMore, NotACertificate as FedNone, TooDeep as FedDeep}
use Rattle.qc_check.specs.declared.finding.Checked.{Checked}
use Rattle.qc_check.specs.declared.finding.Checked.TheVariants.{Yes, NotProved, NotACertificate, TooDeep}

-- the lines of the tree that were told
abbrev pub lines_told : Told → List Line
lines_told nothing = []
lines_told (headed version outcome optimum lines) = lines

-- the head that was told, if it was
abbrev pub HeadIs : Option Stated → Told → Type 0
HeadIs None told = told ≡ nothing
HeadIs (Some s) told = (version : Version) × (lines : List Line) × (told ≡ headed version s.outcome s.optimum lines)

-- the bytes, so many, begin a text, of which the head and the whole lines were told, and the machine was given the lines
pub record IsReading (r : Reading) (m : Machine) (head : Option Stated) (count : ℕ) (bytes : List ℕ) : Type 0 where
  pub told : Told
  pub stands : StandsFor r bytes told
  pub begins : BeginsText 1000 bytes
  pub counted : count ≡ length bytes
  pub head_is : HeadIs head told
  pub few : length (lines_told told) ≤ count
  pub tells : TellsAfter (length (lines_told told)) m (goes_through (game_of m) (Some (first_ledger (game_of m))) (lines_told told))

-- these bytes, and all that begin with them, have this first fault
abbrev pub IsStopped : Stop → ℕ → List ℕ → Type 0
IsStopped Bad at bytes = (more : List ℕ) → IsNotACertificate at (bytes ++ more)
IsStopped Deep at bytes = (more : List ℕ) → IsTooDeep at (bytes ++ more)

-- what the bytes so far are: all of the text of a certificate, or the beginning of one; or what they are stays so whatever
-- bytes come, and shows first at this place
abbrev pub Feeds : List ℕ → Fed → Type 0
Feeds bytes FedMore = BeginsText 1000 bytes
Feeds bytes (FedNone at) = (at < length bytes) × IsNotACertificate at bytes
Feeds bytes (FedDeep at) = IsTooDeep at bytes

-- what was answered last
abbrev pub answered_by : Option Stop → ℕ → Fed
answered_by None at = FedMore
answered_by (Some Bad) at = FedNone at
answered_by (Some Deep) at = FedDeep at

abbrev pub answered : Checker → Fed
answered c = answered_by c.stop c.read

abbrev pub IsCheckingBy : Option Stop → Checker → List ℕ → Type 0
IsCheckingBy None c bytes = IsReading c.reader c.machine c.head c.read bytes
IsCheckingBy (Some stop) c bytes = IsStopped stop c.read bytes

-- the checker was given these bytes
abbrev pub IsChecking : Checker → List ℕ → Type 0
IsChecking c bytes = IsCheckingBy c.stop c bytes

-- the bytes are the text of this certificate, which is nested at most 1,000 deep
pub record IsCertificate (bytes : List ℕ) (version : Version) (outcome : Outcome) (optimum : Option ℤ) (root : Tree) : Type 0 where
  pub spelled : bytes ≡ certificate_text version outcome optimum root
  pub spellable : IsTrue (has_text version outcome optimum root)
  pub shallow : depth_of root ≤ 1000

-- a certificate that proves what it states, which is so
pub record IsProof (g : Game) (bytes : List ℕ) (outcome : Outcome) (optimum : Option ℤ) : Type 0 where
  pub version : Version
  pub root : Tree
  pub read : IsCertificate bytes version outcome optimum root
  pub proves : IsTrue (proves g outcome optimum root)
  pub means : OutcomeMeans outcome optimum g root

-- one that doesn't
pub record IsNoProof (g : Game) (bytes : List ℕ) : Type 0 where
  pub version : Version
  pub outcome : Outcome
  pub optimum : Option ℤ
  pub root : Tree
  pub read : IsCertificate bytes version outcome optimum root
  pub fails : IsTrue (proves g outcome optimum root) → ⊥

-- what is said of bytes
abbrev pub Comes : Game → List ℕ → Checked → Type 0
Comes g bytes (Yes outcome optimum) = IsProof g bytes outcome optimum
Comes g bytes NotProved = IsNoProof g bytes
Comes g bytes (NotACertificate at) = IsNotACertificate at bytes
Comes g bytes (TooDeep at) = IsTooDeep at bytes
