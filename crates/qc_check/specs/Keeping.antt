-- A checker that remembers nodes, within a piece.
use Rattle.std.specs.Prelude.{◌≡◌, ◌≤◌, ◌<◌, ℕ, false, List, [], ◌∷◌, ◌++◌, length, take, drop, flat_map, Option, Some, IsTrue, ⊤, ℤ}
use Rattle.std.specs.List.{list_all}
use Rattle.qc_model.specs.Content.{Game}
use Rattle.qc_model.specs.Game.{before}
use Rattle.proof_tree.specs.declared.line.Line.{Line}
use Rattle.proof_tree.specs.Text.{line_text}
use Rattle.proof_text.specs.LineRanges.{line_fits}
use Rattle.proof_text.specs.Answers.{Told, tell, is_nothing, StandsFor}
use Rattle.proof_text.specs.Places.{BeginsText}
use Rattle.proof_text.specs.declared.answer.Read.TheVariants.{Whole}
use Rattle.likeness.specs.Likeness.{IsLike, line_looks}
use Rattle.check_lines.specs.declared.machine.Machine.{Machine}
use Rattle.check_lines.specs.Ledger.{Ledger}
use Rattle.check_lines.specs.LedgerHeld.{first_ledger, goes_through}
use Rattle.check_lines.specs.Machine.{game_of, IsReady}
use Rattle.check_lines.specs.Telling.{Tells, TellsAfter}
use Rattle.check_lines.specs.Under.{IsUnder, EndsUnder}
use Rattle.qc_check.specs.declared.progress.Checker.{Checker}
use Rattle.qc_check.specs.Checking.{lines_told, HeadIs, IsReading, IsChecking}
use Rattle.qc_check.specs.Places.{StartHeld}

-- how a node stands after some lines: it goes on; or, by how much is open, it goes on or has ended
abbrev pub Standing : Type 1
Standing = Game → Ledger → List Line → Ledger → Type 0

abbrev pub GoesOn : Standing
GoesOn g d ls p = IsUnder g d ls p

abbrev pub MayEnd : Standing
MayEnd g d ls p = (length d.entries ≤ length p.entries → IsUnder g d ls p) × (length p.entries < length d.entries → EndsUnder g d ls p)

-- a node was due before these lines, whose text ends the bytes of the piece so far, and its position looked as kept
pub record IsStart (how : Standing) (g : Game) (bytes : List ℕ) (p : Ledger) (s : StartHeld) : Type 0 where
  pub ledger : Ledger
  pub lines : List Line
  pub stands : how g ledger lines p
  pub scope : ledger.number ≡ s.start.node.scope
  pub horizon : ledger.horizon ≡ s.start.node.horizon
  pub depth : length ledger.entries ≡ s.start.node.depth
  pub turns : ledger.turns ≡ s.start.node.turns
  pub within : s.start.at ≤ length bytes
  pub text : drop s.start.at bytes ≡ flat_map line_text lines
  pub fits : IsTrue (list_all line_fits lines)
  pub looks : IsTrue (list_all (line_looks g s.start.node.scope) lines)
  pub like : IsLike g s.start.node.scope s.values ledger.box

-- each node begins within the ones before it
abbrev pub IsInside : StartHeld → List StartHeld → Type 0
IsInside s [] = ⊤
IsInside s (o ∷ more) = (o.start.node.scope < s.start.node.scope) × (o.start.node.depth < s.start.node.depth)

abbrev pub AreStarts : Standing → Game → List ℕ → Ledger → List StartHeld → Type 0
AreStarts how g bytes p [] = ⊤
AreStarts how g bytes p (s ∷ more) = IsStart how g bytes p s × IsInside s more × AreStarts how g bytes p more

-- of the ledger, where there is one
abbrev pub AreStartsOf : Standing → Game → List ℕ → Option Ledger → List StartHeld → Type 0
AreStartsOf how g bytes p ss = (d : Ledger) → p ≡ Some d → AreStarts how g bytes d ss

abbrev pub ledger_told : Game → Told → Option Ledger
ledger_told g told = goes_through g (Some (first_ledger g)) (lines_told told)

-- the checker was given the bytes in front of the piece and the first `at` of the piece, and its nodes stand so
pub record IsKeepingBy (how : Standing) (c : Checker) (front piece : List ℕ) (at : ℕ) : Type 0 where
  pub reading : IsReading c.reader c.machine c.head c.read (front ++ take at piece)
  pub starts : AreStartsOf how (game_of c.machine) (take at piece) (ledger_told (game_of c.machine) reading.told) c.starts

-- between lines, and after a line before what ended with it is left
abbrev pub IsKeeping : Checker → List ℕ → List ℕ → ℕ → Type 0
IsKeeping c front piece at = IsKeepingBy GoesOn c front piece at

abbrev pub IsSettling : Checker → List ℕ → List ℕ → ℕ → Type 0
IsSettling c front piece at = IsKeepingBy MayEnd c front piece at

-- a line was read whose bytes end at `at`, and the machine wasn't given it yet
pub record IsRead (c : Checker) (front piece : List ℕ) (at : ℕ) (line : Line) : Type 0 where
  pub from : ℕ
  pub told : Told
  pub stands : StandsFor c.reader (front ++ take at piece) (tell told (Whole line))
  pub begins : BeginsText 1000 (front ++ take at piece)
  pub headed : is_nothing told ≡ false
  pub fits : IsTrue (line_fits line)
  pub text : take at piece ≡ take from piece ++ line_text line
  pub counted : c.read ≡ length (front ++ take at piece)
  pub head_is : HeadIs c.head told
  pub few : length (lines_told told) < c.read
  pub tells : TellsAfter (length (lines_told told)) c.machine (ledger_told (game_of c.machine) told)
  pub starts : AreStartsOf GoesOn (game_of c.machine) (take from piece) (ledger_told (game_of c.machine) told) c.starts

-- the values of the variables before the scope whose node is due
abbrev pub values_due : Machine → List ℤ
values_due m = take (before (game_of m) m.number) m.values.items

-- a machine tells some ledger, and the nodes stand so by it
pub record AreStartsAt (how : Standing) (m : Machine) (bytes : List ℕ) (ss : List StartHeld) : Type 0 where
  pub ledger : Option Ledger
  pub tells : Tells m ledger
  pub starts : AreStartsOf how (game_of m) bytes ledger ss

-- the checker was given some bytes
pub record WasGiven (c : Checker) : Type 0 where
  pub ready : IsReady c.machine
  pub bytes : List ℕ
  pub checking : IsChecking c bytes
