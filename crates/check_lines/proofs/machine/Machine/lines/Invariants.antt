use Rattle.std.proofs.Common.{◌≡◌, ◌+◌, ◌≤◌, ℕ, Option, length, drop}
use Rattle.check_lines.specs.Ledger.{Ledger}
use Rattle.check_lines.specs.LedgerHeld.{goes_through}
use Rattle.check_lines.specs.Machine.{game_of, base_of, IsReady}
use Rattle.check_lines.specs.Telling.{TellsAfter}
use Rattle.check_lines.proofs.machine.Machine.lines.Given as goal

abbrev pub invariant-loop-line : goal.invariant-loop-line
invariant-loop-line l = record {
  tells : (n : ℕ) (p : Option Ledger) → n + length l.lines ≤ 4294967296 → TellsAfter n l.fn.self p →
      (q : Option Ledger) × TellsAfter (n + l.line-index) l.self q × (goes_through (game_of l.fn.self) q (drop l.line-index l.lines) ≡ goes_through (game_of l.fn.self) p l.lines);
  ready : IsReady l.self;
  same : game_of l.self ≡ game_of l.fn.self;
  base : base_of l.self ≡ base_of l.fn.self;
}
