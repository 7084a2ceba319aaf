use Rattle.std.proofs.Common.{◌≡◌, ◌≤◌, ◌+◌, ◌-◌, ℕ, List, length, None}
use Rattle.check_lines.specs.Machine.{game_of, IsReady}
use Rattle.qc_check.specs.Checking.{IsChecking}
use Rattle.qc_check.specs.Keeping.{IsKeeping}
use Rattle.qc_check.proofs.progress.Checker.read_keeping.Given as goal

-- the checker was given the first bytes of the piece
abbrev pub invariant-loop-at : goal.invariant-loop-at
invariant-loop-at l = record {
  ready : IsReady l.self.machine;
  going : l.self.stop ≡ None;
  same : game_of l.self.machine ≡ game_of l.fn.self.machine;
  within : l.at ≤ length l.bytes;
  read : l.self.read ≤ l.fn.self.read + l.at;
  some : (before : List ℕ) × IsKeeping l.self before l.bytes l.at;
  keeping : (before : List ℕ) → IsChecking l.fn.self before → IsKeeping l.self before l.bytes l.at;
}

abbrev pub decreases-loop-at : goal.decreases-loop-at
decreases-loop-at l = length l.bytes - l.at
