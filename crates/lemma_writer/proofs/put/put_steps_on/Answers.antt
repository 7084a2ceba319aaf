use Rattle.std.proofs.Common.{refl, map}
use Rattle.std.proofs.lemmas.Result.{on_ok_weaker, on_err_weaker}
use Rattle.lemma_text.specs.declared.item.Item.TheVariants.{Step as StepItem}
use Rattle.lemma_text.specs.Items.{ending_items}
use Rattle.lemma_writer.proofs.Puts.{both_put_as, second_fails_as}
use Rattle.lemma_writer.proofs.put.put_steps_on.Goals as goal

pub returns-clause-ok : goal.returns-clause-ok
returns-clause-ok g c =
    on_ok_weaker _ (both_put_as (g.K.Sink.written c.args.sink.now) (g.K.Sink.written c.put_steps.new.sink) (g.K.Sink.written c.put_ending.new.sink) c.args.pieces.now c.put_steps.new.pieces c.put_ending.new.pieces (map StepItem c.args.steps.now) (map StepItem c.args.steps.now) (ending_items c.args.ending) (ending_items c.args.ending) refl refl c.in_ok-put_steps.ensures.ok) c.put_ending.ensures.ok

pub returns-clause-err : goal.returns-clause-err
returns-clause-err g c =
    on_err_weaker _ (second_fails_as (g.K.Sink.written c.args.sink.now) (g.K.Sink.written c.put_steps.new.sink) (g.K.Sink.written c.put_ending.new.sink) c.args.pieces.now c.put_steps.new.pieces (map StepItem c.args.steps.now) (map StepItem c.args.steps.now) (ending_items c.args.ending) (ending_items c.args.ending) refl refl c.in_ok-put_steps.ensures.ok) c.put_ending.ensures.err
