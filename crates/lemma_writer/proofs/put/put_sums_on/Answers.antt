use Rattle.std.proofs.Common.{refl, map}
use Rattle.std.proofs.lemmas.Result.{on_ok_weaker, on_err_weaker}
use Rattle.lemma_text.specs.declared.item.Item.TheVariants.{Sum as SumItem}
use Rattle.lemma_writer.specs.Entries.{steps_items}
use Rattle.lemma_writer.proofs.Puts.{both_put_as, second_fails_as}
use Rattle.lemma_writer.proofs.put.put_sums_on.Goals as goal

pub returns-clause-ok : goal.returns-clause-ok
returns-clause-ok g c =
    on_ok_weaker _ (both_put_as (g.K.Sink.written c.args.sink.now) (g.K.Sink.written c.put_sums.new.sink) (g.K.Sink.written c.put_steps_on.new.sink) c.args.pieces.now c.put_sums.new.pieces c.put_steps_on.new.pieces (map SumItem c.args.sums.now) (map SumItem c.args.sums.now) (steps_items c.args.steps.now c.args.ending) (steps_items c.args.steps.now c.args.ending) refl refl c.in_ok-put_sums.ensures.ok) c.put_steps_on.ensures.ok

pub returns-clause-err : goal.returns-clause-err
returns-clause-err g c =
    on_err_weaker _ (second_fails_as (g.K.Sink.written c.args.sink.now) (g.K.Sink.written c.put_sums.new.sink) (g.K.Sink.written c.put_steps_on.new.sink) c.args.pieces.now c.put_sums.new.pieces (map SumItem c.args.sums.now) (map SumItem c.args.sums.now) (steps_items c.args.steps.now c.args.ending) (steps_items c.args.steps.now c.args.ending) refl refl c.in_ok-put_sums.ensures.ok) c.put_steps_on.ensures.err
