use Rattle.std.proofs.Common.{◌≡◌, ◌++◌, flat_map, length}
use Rattle.lemma_text.specs.Items.{item_text, literal_items}
use Rattle.lemma_writer.proofs.Puts.{Going}
use Rattle.lemma_writer.proofs.put.put_literals.Given as goal

abbrev pub invariant-loop-literal : goal.invariant-loop-literal
invariant-loop-literal g l = record {
  going : Going (g.K.Sink.written l.fn.sink) (g.K.Sink.written l.sink) l.pieces (l.fn.pieces ++ flat_map item_text (literal_items l.fn.literals)) (flat_map item_text (literal_items l.rest));
  faults : g.K.Sink.faults l.sink ≡ g.K.Sink.faults l.fn.sink;
}

abbrev pub decreases-loop-literal : goal.decreases-loop-literal
decreases-loop-literal g l = length l.rest
