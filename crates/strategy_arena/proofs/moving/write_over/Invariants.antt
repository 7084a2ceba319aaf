use Rattle.std.proofs.Common.{◌≡◌, length}
use Rattle.strategy_arena.specs.Short.{written_over}
use Rattle.strategy_arena.proofs.moving.write_over.Given as goal

abbrev pub invariant-loop-k : goal.invariant-loop-k
invariant-loop-k l = record {
  written : l.lines.items ≡ written_over l.fn.lines.items l.fn.start l.with l.k;
  each : length l.lines.items ≡ length l.fn.lines.items;
}
