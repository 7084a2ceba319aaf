use Rattle.std.proofs.Common.{◌≡◌, ◌++◌, flat_map, length, map}
use Rattle.lemma_text.specs.declared.item.Item.TheVariants.{Sum as SumItem}
use Rattle.lemma_text.specs.Items.{item_text}
use Rattle.lemma_writer.proofs.Puts.{Going}
use Rattle.lemma_writer.proofs.put.put_sums.Given as goal

abbrev pub invariant-loop-sum : goal.invariant-loop-sum
invariant-loop-sum g l = record {
  going : Going (g.K.Sink.written l.fn.sink) (g.K.Sink.written l.sink) l.pieces (l.fn.pieces ++ flat_map item_text (map SumItem l.fn.sums)) (flat_map item_text (map SumItem l.rest));
  faults : g.K.Sink.faults l.sink ≡ g.K.Sink.faults l.fn.sink;
}

abbrev pub decreases-loop-sum : goal.decreases-loop-sum
decreases-loop-sum g l = length l.rest
