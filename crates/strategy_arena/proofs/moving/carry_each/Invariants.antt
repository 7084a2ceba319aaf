use Rattle.std.proofs.Common.{◌≡◌, ◌≤◌, ◌+◌, ◌++◌, length, take}
use Rattle.std.specs.Vec.{vec_len, vec_capacity}
use Rattle.strategy_arena.specs.Short.{AllStand, Extends, lines_of}
use Rattle.strategy_arena.proofs.moving.carry_each.Given as goal

abbrev pub invariant-loop-short : goal.invariant-loop-short
invariant-loop-short l = record {
  put : lines_of l.wide.items l.lines.items ≡ lines_of l.fn.wide.items l.fn.lines.items ++ lines_of l.known (take l.short-index l.from);
  stand : AllStand (length l.wide.items) l.lines.items;
  first : l.fn.lines.items ≡ take (length l.fn.lines.items) l.lines.items;
  grown : Extends l.fn.wide.items l.wide.items;
  room : vec_len l.lines + length l.from ≤ vec_capacity l.lines + l.short-index;
}
