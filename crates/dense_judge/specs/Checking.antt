-- What a checker is after some bytes, and what it says of them.
use Rattle.std.specs.Prelude.{◌≡◌, ◌≤◌, ◌+◌, ⊤, ℕ, List, ◌++◌, length, Option, Some, None, IsTrue, ℤ}
use Rattle.qc_model.specs.Content.{Game}
use Rattle.proof_tree.specs.declared.tree.Outcome.{Outcome}
use Rattle.dense_tree.specs.Tree.{Certificate}
use Rattle.dense_tree.specs.Proves.{proves}
use Rattle.dense_tree.specs.Text.{certificate_text, has_text}
use Rattle.dense_ledger.specs.Ledger.{goes_through, first_ledger}
use Rattle.dense_laws.specs.Says.{DenseMeans}
use Rattle.dense_text.specs.declared.piece.Piece.{Piece}
use Rattle.dense_text.specs.Kept.{Held}
use Rattle.dense_text.specs.Reader.{StandsFor}
use Rattle.dense_text.specs.Places.{BeginsText, IsFault}
use Rattle.dense_check.specs.declared.machine.DenseMachine.{DenseMachine}
use Rattle.dense_check.specs.Telling.{game_of, TellsOf, IsReady as IsReadyMachine}
use Rattle.dense_judge.specs.declared.finding.Checked.{Checked}
use Rattle.dense_judge.specs.declared.finding.Checked.TheVariants.{Yes, NotProved, NotACertificate}
use Rattle.dense_judge.specs.declared.gather.Gather.{Gather}
use Rattle.dense_judge.specs.declared.heads.Head.{Head}
use Rattle.dense_judge.specs.declared.progress.Stop.{Stop}
use Rattle.dense_judge.specs.declared.progress.Stop.TheVariants.{Bad, Spent}
use Rattle.dense_judge.specs.declared.progress.DenseChecker.{DenseChecker}
use Rattle.dense_judge.specs.Gathered.{Gathered, no_pieces, all_gathered}
use Rattle.dense_judge.specs.Gathering.{Keeps}
use Rattle.dense_judge.specs.Stated.{head_told}

-- a machine was given the whole lines that were gathered, and the line that has begun is kept
pub record HasTaken (k : Gather) (m : DenseMachine) (a : Gathered) : Type 0 where
  pub begun : Keeps k a.begun
  pub ledger : TellsOf m (goes_through (game_of m) (Some (first_ledger (game_of m))) a.lines)

-- the bytes, so many, begin a text, of which these pieces were told, and their lines were given to the machine
pub record IsReading (r : Option Held) (k : Gather) (m : DenseMachine) (head : Option Head) (count : ℕ) (bytes : List ℕ) : Type 0 where
  pub told : List Piece
  pub stands : StandsFor r bytes told
  pub begins : BeginsText bytes
  pub counted : count ≡ length bytes
  pub head_is : head ≡ head_told None told
  pub taken : HasTaken k m (all_gathered no_pieces told)

-- these bytes, and all that begin with them, have this first fault; nothing is known where memory was refused
abbrev pub IsStopped : Stop → ℕ → List ℕ → Type 0
IsStopped Bad at bytes = (more : List ℕ) → IsFault at (bytes ++ more)
IsStopped Spent at bytes = ⊥

abbrev pub IsCheckingBy : Option Stop → DenseChecker → List ℕ → Type 0
IsCheckingBy None c bytes = IsReading c.reader c.gather c.machine c.head c.read bytes
IsCheckingBy (Some stop) c bytes = IsStopped stop c.read bytes

-- the checker was given these bytes, and had the memory for them
abbrev pub IsChecking : DenseChecker → List ℕ → Type 0
IsChecking c bytes = IsCheckingBy c.stop c bytes

-- a checker that was the one is the other after some of the bytes, and these are left of them
pub record ReadsOn (old new : DenseChecker) (bytes rest : List ℕ) : Type 0 where
  pub front : List ℕ
  pub whole : bytes ≡ front ++ rest
  pub some : 1 ≤ length front
  pub read : new.read ≤ old.read + length front
  pub checking : (before : List ℕ) → IsChecking old before → IsChecking new (before ++ front)

-- memory was refused
abbrev pub IsSpent : DenseChecker → Type 0
IsSpent c = c.stop ≡ Some Spent

-- the machine can take the next line, unless no more bytes are read
abbrev pub IsReadyBy : Option Stop → DenseMachine → Type 0
IsReadyBy None m = IsReadyMachine m
IsReadyBy (Some stop) m = ⊤

-- more bytes may be given
abbrev pub IsReady : DenseChecker → Type 0
IsReady c = IsReadyBy c.stop c.machine

-- the bytes are the text of this certificate, with this outcome and optimum
pub record IsCertificateText (bytes : List ℕ) (outcome : Outcome) (optimum : Option ℤ) (c : Certificate) : Type 0 where
  pub spelled : bytes ≡ certificate_text outcome optimum c
  pub spellable : IsTrue (has_text outcome optimum c)

-- a certificate that proves what it states, which is so
pub record IsProof (g : Game) (bytes : List ℕ) (outcome : Outcome) (optimum : Option ℤ) : Type 0 where
  pub certificate : Certificate
  pub read : IsCertificateText bytes outcome optimum certificate
  pub proves : IsTrue (proves g outcome optimum certificate)
  pub means : DenseMeans outcome optimum g

-- one that doesn't
pub record IsNoProof (g : Game) (bytes : List ℕ) : Type 0 where
  pub outcome : Outcome
  pub optimum : Option ℤ
  pub certificate : Certificate
  pub read : IsCertificateText bytes outcome optimum certificate
  pub fails : IsTrue (proves g outcome optimum certificate) → ⊥

-- what is said of bytes
abbrev pub Comes : Game → List ℕ → Checked → Type 0
Comes g bytes (Yes outcome optimum) = IsProof g bytes outcome optimum
Comes g bytes NotProved = IsNoProof g bytes
Comes g bytes (NotACertificate at) = IsFault at bytes
