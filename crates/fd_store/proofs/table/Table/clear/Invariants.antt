use Rattle.std.proofs.Common.{◌≡◌, ◌≤◌, ◌<◌, ◌+◌, ◌-◌, ◌*◌, ◌/◌, max, min, length}
use Rattle.std.specs.Prelude.{pos, ◌+ℤ◌, slice_index_or}
use Rattle.fd_store.specs.Sound.{IsCell}
use Rattle.fd_store.specs.Takes.{Takes, SameEnds}
use Rattle.fd_store.proofs.table.Table.clear.Given as goal

abbrev pub invariant-loop-w : goal.invariant-loop-w
invariant-loop-w l = record {
  takes : Takes l.x (l.fn.cell.base +ℤ pos l.a) (l.fn.cell.base +ℤ pos (max l.a (min l.e (64 * l.w)) - 1)) l.initial.self l.self;
  step : length l.self.trail.items ≤ length l.initial.self.trail.items + (l.w - l.a / 64);
  var : l.x < length l.self.cells.items;
  at : slice_index_or l.self.cells.items l.x l.left ≡ l.left;
  same : SameEnds l.fn.cell l.left;
  right : IsCell l.self.words.items l.left;
}
