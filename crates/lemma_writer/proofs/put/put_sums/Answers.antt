use Rattle.std.proofs.Common.{rules, ◌++◌, flat_map, map}
use Rattle.qc_io.proofs.Known.{on_err}
use Rattle.lemma_text.specs.declared.item.Item.TheVariants.{Sum as SumItem}
use Rattle.lemma_text.specs.Items.{item_text}
use Rattle.lemma_writer.proofs.Puts.{going_on, going_fails, sum_due}
use Rattle.lemma_writer.proofs.put.put_sums.Goals as goal

pub returns-in_err-put_item-clause-err : goal.returns-in_err-put_item-clause-err
returns-in_err-put_item-clause-err g c =
    on_err _ (going_fails (g.K.Sink.written c.args.sink.now) (g.K.Sink.written c.loop-sum.sink) (g.K.Sink.written c.put_item.new.sink) c.loop-sum.pieces (c.args.pieces.now ++ flat_map item_text (map SumItem c.args.sums.now)) (item_text (SumItem c.in-Some.sum.now)) (flat_map item_text (map SumItem c.in-Some.after.now)) (sum_due (g.K.Sink.written c.args.sink.now) (g.K.Sink.written c.loop-sum.sink) c.loop-sum.pieces (c.args.pieces.now ++ flat_map item_text (map SumItem c.args.sums.now)) c.loop-sum.rest.now c.in-Some.sum.now c.in-Some.after.now c.in-Some.ensures.cases.0 c.loop-sum.invariant.going) c.in_err-put_item.ensures.err)

pub loop-sum-preserved : goal.loop-sum-preserved
loop-sum-preserved g c = record {
  going = going_on (g.K.Sink.written c.args.sink.now) (g.K.Sink.written c.loop-sum.sink) (g.K.Sink.written c.put_item.new.sink) c.loop-sum.pieces (c.args.pieces.now ++ flat_map item_text (map SumItem c.args.sums.now)) (item_text (SumItem c.in-Some.sum.now)) (flat_map item_text (map SumItem c.in-Some.after.now)) c.put_item.new.pieces (sum_due (g.K.Sink.written c.args.sink.now) (g.K.Sink.written c.loop-sum.sink) c.loop-sum.pieces (c.args.pieces.now ++ flat_map item_text (map SumItem c.args.sums.now)) c.loop-sum.rest.now c.in-Some.sum.now c.in-Some.after.now c.in-Some.ensures.cases.0 c.loop-sum.invariant.going) c.in_ok-put_item.ensures.ok;
  faults = search rules;
}
