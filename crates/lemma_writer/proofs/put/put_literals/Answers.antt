use Rattle.std.proofs.Common.{rules, ◌++◌, flat_map}
use Rattle.qc_io.proofs.Known.{on_err}
use Rattle.lemma_text.specs.declared.item.Item.TheVariants.{Literal as LiteralItem}
use Rattle.lemma_text.specs.Items.{item_text, literal_items}
use Rattle.lemma_writer.proofs.Puts.{going_on, going_fails, literal_due}
use Rattle.lemma_writer.proofs.put.put_literals.Goals as goal

pub returns-in_err-put_item-clause-err : goal.returns-in_err-put_item-clause-err
returns-in_err-put_item-clause-err g c =
    on_err _ (going_fails (g.K.Sink.written c.args.sink.now) (g.K.Sink.written c.loop-literal.sink) (g.K.Sink.written c.put_item.new.sink) c.loop-literal.pieces (c.args.pieces.now ++ flat_map item_text (literal_items c.args.literals.now)) (item_text (LiteralItem c.in-Some.literal.now c.none_left.result)) (flat_map item_text (literal_items c.in-Some.after.now)) (literal_due (g.K.Sink.written c.args.sink.now) (g.K.Sink.written c.loop-literal.sink) c.loop-literal.pieces (c.args.pieces.now ++ flat_map item_text (literal_items c.args.literals.now)) c.loop-literal.rest.now c.in-Some.literal.now c.in-Some.after.now c.none_left.result c.in-Some.ensures.cases.0 c.none_left.ensures c.loop-literal.invariant.going) c.in_err-put_item.ensures.err)

pub loop-literal-preserved : goal.loop-literal-preserved
loop-literal-preserved g c = record {
  going = going_on (g.K.Sink.written c.args.sink.now) (g.K.Sink.written c.loop-literal.sink) (g.K.Sink.written c.put_item.new.sink) c.loop-literal.pieces (c.args.pieces.now ++ flat_map item_text (literal_items c.args.literals.now)) (item_text (LiteralItem c.in-Some.literal.now c.none_left.result)) (flat_map item_text (literal_items c.in-Some.after.now)) c.put_item.new.pieces (literal_due (g.K.Sink.written c.args.sink.now) (g.K.Sink.written c.loop-literal.sink) c.loop-literal.pieces (c.args.pieces.now ++ flat_map item_text (literal_items c.args.literals.now)) c.loop-literal.rest.now c.in-Some.literal.now c.in-Some.after.now c.none_left.result c.in-Some.ensures.cases.0 c.none_left.ensures c.loop-literal.invariant.going) c.in_ok-put_item.ensures.ok;
  faults = search rules;
}
