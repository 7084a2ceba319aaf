use Rattle.std.proofs.Common.{◌≡◌, ◌≤◌, ◌<◌, ℕ}
use Rattle.qc_model.specs.Domains.{values_left, declared_box}
use Rattle.check_lines.specs.Machine.{game_of}
use Rattle.check_lines.proofs.machine.Machine.is_fresh.Given as goal

abbrev pub invariant-loop-at : goal.invariant-loop-at
invariant-loop-at l = record {
  after : l.fn.level.from ≤ l.at;
  whole : (x : ℕ) → l.fn.level.from ≤ x → x < l.at → values_left l.fn.self.remains.box x ≡ values_left (declared_box (game_of l.fn.self)) x;
}
