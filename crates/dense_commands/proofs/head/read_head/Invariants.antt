use Rattle.std.proofs.Common.{◌≡◌, ◌≤◌, ◌-◌, length, take}
use Rattle.qc_io.specs.Counts.{RoseBy}
use Rattle.qc_io.specs.Shelf.{IsFront}
use Rattle.dense_commands.proofs.head.read_head.Given as goal

abbrev pub invariant-loop-filled : goal.invariant-loop-filled
invariant-loop-filled g l = record {
  nine : length l.head ≡ 9;
  within : l.filled ≤ 9;
  front : IsFront (g.S.Shelf.told l.fn.shelf l.name) (take l.filled l.head);
  faults : g.S.Shelf.faults l.shelf ≡ g.S.Shelf.faults l.fn.shelf;
  given : RoseBy 0 (g.S.Shelf.given l.fn.shelf) (g.S.Shelf.given l.shelf);
  stays : g.S.Shelf.told l.shelf ≡ g.S.Shelf.told l.fn.shelf;
}

abbrev pub decreases-loop-filled : goal.decreases-loop-filled
decreases-loop-filled g l = 9 - l.filled
