use Rattle.std.proofs.Common.{◌≡◌, ◌++◌, flat_map, take}
use Rattle.qc_io.specs.Sink.{Moves}
use Rattle.strategy_arena.specs.Short.{short_text}
use Rattle.strategy_arena.proofs.write.put_shorts.Given as goal

abbrev pub invariant-loop-short : goal.invariant-loop-short
invariant-loop-short g l = record {
  moves : Moves (g.K.Sink.written l.fn.sink) (g.K.Sink.written l.sink) l.pieces (l.fn.pieces ++ flat_map (short_text l.wide) (take l.short-index l.shorts));
  faults : g.K.Sink.faults l.sink ≡ g.K.Sink.faults l.fn.sink;
}
