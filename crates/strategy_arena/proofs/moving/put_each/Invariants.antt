use Rattle.std.proofs.Common.{◌≡◌, ◌≤◌, ◌+◌, ◌++◌, length, take}
use Rattle.std.specs.Vec.{vec_len, vec_capacity}
use Rattle.strategy_arena.specs.Short.{AllStand, Extends, lines_of}
use Rattle.strategy_arena.proofs.moving.put_each.Given as goal

abbrev pub invariant-loop-line : goal.invariant-loop-line
invariant-loop-line l = record {
  put : lines_of l.wide.items l.lines.items ≡ lines_of l.fn.wide.items l.fn.lines.items ++ take l.line-index l.with;
  stand : AllStand (length l.wide.items) l.lines.items;
  first : l.fn.lines.items ≡ take (length l.fn.lines.items) l.lines.items;
  grown : Extends l.fn.wide.items l.wide.items;
  room : vec_len l.lines + length l.with ≤ vec_capacity l.lines + l.line-index;
}
