use Rattle.std.proofs.Common.{◌≡◌, ◌-◌, ℕ, List, length, map, take, true}
use Rattle.std.specs.List.{list_all}
use Rattle.qc_model.specs.Valid.{is_number}
use Rattle.check_lines.specs.declared.open.Open.{Open}
use Rattle.check_lines.specs.Known.{HasRead, AreBranchesRead}
use Rattle.check_box.specs.Placed.{only}
use Rattle.check_lines.proofs.reads.Reads.read_on.Given as goal

abbrev pub invariant-loop-self : goal.invariant-loop-self
invariant-loop-self l = record {
  read : HasRead l.fn.store l.values.items l.self;
  branches : (fs : List Open) → AreBranchesRead l.fn.store l.initial.values.items l.initial.self fs → AreBranchesRead l.fn.store l.values.items l.self fs;
  kept : (n : ℕ) → take n l.fn.store.box ≡ map only (take n l.initial.values.items) → take n l.values.items ≡ take n l.initial.values.items;
  places : length l.self.marks.items ≡ length l.initial.self.marks.items;
  game : l.values.game ≡ l.initial.values.game;
  each : length l.values.items ≡ length l.initial.values.items;
  numbers : list_all is_number l.values.items ≡ true;
}

abbrev pub decreases-loop-self : goal.decreases-loop-self
decreases-loop-self l = l.fn.stop - l.self.count
