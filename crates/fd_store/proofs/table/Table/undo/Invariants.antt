use Rattle.std.proofs.Common.{◌≡◌, ◌≤◌, ◌+◌, length, take, drop}
use Rattle.std.specs.Prelude.{All}
use Rattle.fd_store.specs.Sound.{IsPlace}
use Rattle.fd_store.specs.Trail.{words_before, cells_before}
use Rattle.fd_store.proofs.table.Table.undo.Given as goal

abbrev pub invariant-loop-self : goal.invariant-loop-self
invariant-loop-self l = record {
  above : l.at ≤ length l.self.trail.items;
  below : length l.self.trail.items ≤ length l.initial.self.trail.items;
  words : l.self.words.items ≡ words_before (drop (length l.self.trail.items) l.initial.self.trail.items) l.initial.self.words.items;
  cells : l.self.cells.items ≡ cells_before (drop (length l.self.trail.items) l.initial.self.trail.items) l.initial.self.cells.items;
  trail : l.self.trail.items ≡ take (length l.self.trail.items) l.initial.self.trail.items;
  places : All (IsPlace (length l.self.cells.items)) l.self.trail.items;
  spare : l.self.trail.spare + length l.self.trail.items ≡ l.initial.self.trail.spare + length l.initial.self.trail.items;
}

abbrev pub decreases-loop-self : goal.decreases-loop-self
decreases-loop-self l = length l.self.trail.items
