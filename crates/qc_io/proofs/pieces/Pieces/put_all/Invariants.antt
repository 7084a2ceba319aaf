use Rattle.std.proofs.Common.{length, take, ◌++◌, ◌+◌, ◌-◌, ◌≡◌, ◌≤◌}
use Rattle.qc_io.specs.Sink.{Moves, KeepsLast}
use Rattle.qc_io.proofs.pieces.Pieces.put_all.Given as goal

abbrev pub invariant-loop-done : goal.invariant-loop-done
invariant-loop-done g l = record {
  bound : l.done ≤ length l.bytes;
  moves : Moves (g.K.Sink.written l.fn.sink) (g.K.Sink.written l.sink) l.self (l.fn.self ++ take l.done l.bytes);
  whole : KeepsLast (length l.fn.self + l.done) (length l.self);
  faults : g.K.Sink.faults l.sink ≡ g.K.Sink.faults l.fn.sink;
}

abbrev pub decreases-loop-done : goal.decreases-loop-done
decreases-loop-done g l = length l.bytes - l.done
