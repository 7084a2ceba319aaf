use Rattle.std.proofs.Common.{◌≡◌, ◌++◌, flat_map, length, map}
use Rattle.lemma_text.specs.declared.item.Item.TheVariants.{Step as StepItem}
use Rattle.lemma_text.specs.Items.{item_text}
use Rattle.lemma_writer.proofs.Puts.{Going}
use Rattle.lemma_writer.proofs.put.put_steps.Given as goal

abbrev pub invariant-loop-step : goal.invariant-loop-step
invariant-loop-step g l = record {
  going : Going (g.K.Sink.written l.fn.sink) (g.K.Sink.written l.sink) l.pieces (l.fn.pieces ++ flat_map item_text (map StepItem l.fn.steps)) (flat_map item_text (map StepItem l.rest));
  faults : g.K.Sink.faults l.sink ≡ g.K.Sink.faults l.fn.sink;
}

abbrev pub decreases-loop-step : goal.decreases-loop-step
decreases-loop-step g l = length l.rest
