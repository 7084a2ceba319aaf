-- What a space is after some lines, and what it says of a certificate.
use Rattle.std.specs.Prelude.{◌≡◌, ◌≤◌, ◌+◌, List, ◌++◌, Some}
use Rattle.proof_tree.specs.declared.line.Line.{Line}
use Rattle.check_lines.specs.declared.machine.Machine.{Machine}
use Rattle.check_lines.specs.LedgerHeld.{first_ledger, goes_through}
use Rattle.check_lines.specs.Machine.{game_of, base_of, CanBegin}
use Rattle.check_lines.specs.Telling.{TellsAfter}
use Rattle.check_lines.specs.EndSizes.{ends_through, EndsAt}
use Rattle.qc_check.specs.declared.space.Space.{Space}

-- the machine was given these lines: where they have no more ends than a certificate may have, it tells their ledger, and
-- each end brought a number, as each open scope may
pub record TellsLines (m : Machine) (lines : List Line) : Type 0 where
  pub tells : TellsAfter (ends_through 0 lines + 64) m (goes_through (game_of m) (Some (first_ledger (game_of m))) lines)
  pub ends : EndsAt (game_of m) (ends_through 0 lines) (goes_through (game_of m) (Some (first_ledger (game_of m))) lines)

abbrev pub WasGivenLines : Machine → List Line → Type 0
WasGivenLines m lines = ends_through 0 lines ≤ 1073741824 → TellsLines m lines

-- the space takes these lines
pub record Takes (old new : Space) (lines : List Line) : Type 0 where
  pub same : game_of new.machine ≡ game_of old.machine
  pub base : base_of new.machine ≡ base_of old.machine
  pub given : (before : List Line) → WasGivenLines old.machine before → WasGivenLines new.machine (before ++ lines)

-- the space can check a certificate
abbrev pub CanCheck : Space → Type 0
CanCheck s = CanBegin s.machine
