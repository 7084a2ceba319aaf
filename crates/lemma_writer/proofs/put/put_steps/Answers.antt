use Rattle.std.proofs.Common.{rules, ◌++◌, flat_map, map}
use Rattle.qc_io.proofs.Known.{on_err}
use Rattle.lemma_text.specs.declared.item.Item.TheVariants.{Step as StepItem}
use Rattle.lemma_text.specs.Items.{item_text}
use Rattle.lemma_writer.proofs.Puts.{going_on, going_fails, step_due}
use Rattle.lemma_writer.proofs.put.put_steps.Goals as goal

pub returns-in_err-put_item-clause-err : goal.returns-in_err-put_item-clause-err
returns-in_err-put_item-clause-err g c =
    on_err _ (going_fails (g.K.Sink.written c.args.sink.now) (g.K.Sink.written c.loop-step.sink) (g.K.Sink.written c.put_item.new.sink) c.loop-step.pieces (c.args.pieces.now ++ flat_map item_text (map StepItem c.args.steps.now)) (item_text (StepItem c.in-Some.step.now)) (flat_map item_text (map StepItem c.in-Some.after.now)) (step_due (g.K.Sink.written c.args.sink.now) (g.K.Sink.written c.loop-step.sink) c.loop-step.pieces (c.args.pieces.now ++ flat_map item_text (map StepItem c.args.steps.now)) c.loop-step.rest.now c.in-Some.step.now c.in-Some.after.now c.in-Some.ensures.cases.0 c.loop-step.invariant.going) c.in_err-put_item.ensures.err)

pub loop-step-preserved : goal.loop-step-preserved
loop-step-preserved g c = record {
  going = going_on (g.K.Sink.written c.args.sink.now) (g.K.Sink.written c.loop-step.sink) (g.K.Sink.written c.put_item.new.sink) c.loop-step.pieces (c.args.pieces.now ++ flat_map item_text (map StepItem c.args.steps.now)) (item_text (StepItem c.in-Some.step.now)) (flat_map item_text (map StepItem c.in-Some.after.now)) c.put_item.new.pieces (step_due (g.K.Sink.written c.args.sink.now) (g.K.Sink.written c.loop-step.sink) c.loop-step.pieces (c.args.pieces.now ++ flat_map item_text (map StepItem c.args.steps.now)) c.loop-step.rest.now c.in-Some.step.now c.in-Some.after.now c.in-Some.ensures.cases.0 c.loop-step.invariant.going) c.in_ok-put_item.ensures.ok;
  faults = search rules;
}
