use Rattle.std.proofs.Common.{◌≡◌, length, take}
use Rattle.strategy_arena.specs.Short.{AllStand, Extends, lines_of}
use Rattle.strategy_arena.proofs.moving.keep_all.Given as goal

abbrev pub invariant-loop-line : goal.invariant-loop-line
invariant-loop-line l = record {
  kept : lines_of l.wide.items l.room.items ≡ take l.line-index l.lines;
  stand : AllStand (length l.wide.items) l.room.items;
  grown : Extends l.fn.wide.items l.wide.items;
}
