use Rattle.std.proofs.Common.{ap, List}
use Rattle.std.proofs.lemmas.Result.{on_ok_weaker, on_err_weaker}
use Rattle.lemma_list.specs.declared.lemma.SumLiteral.{SumLiteral}
use Rattle.lemma_text.specs.Items.{literal_items}
use Rattle.lemma_writer.specs.Entries.{sums_items}
use Rattle.lemma_writer.proofs.Puts.{both_put_as, second_fails_as}
use Rattle.lemma_writer.proofs.put.put_literals_on.Goals as goal

pub returns-clause-ok : goal.returns-clause-ok
returns-clause-ok g c =
    on_ok_weaker _ (both_put_as (g.K.Sink.written c.args.sink.now) (g.K.Sink.written c.put_literals.new.sink) (g.K.Sink.written c.put_sums_on.new.sink) c.args.pieces.now c.put_literals.new.pieces c.put_sums_on.new.pieces (literal_items c.args.lemma.now.literals) (literal_items c.literals.result.now) (sums_items c.args.lemma.now.sums c.args.steps.now c.args.ending) (sums_items c.sums.result.now c.args.steps.now c.args.ending) (ap literal_items c.literals.ensures) (ap (λ (zs : List SumLiteral). sums_items zs c.args.steps.now c.args.ending) c.sums.ensures) c.in_ok-put_literals.ensures.ok) c.put_sums_on.ensures.ok

pub returns-clause-err : goal.returns-clause-err
returns-clause-err g c =
    on_err_weaker _ (second_fails_as (g.K.Sink.written c.args.sink.now) (g.K.Sink.written c.put_literals.new.sink) (g.K.Sink.written c.put_sums_on.new.sink) c.args.pieces.now c.put_literals.new.pieces (literal_items c.args.lemma.now.literals) (literal_items c.literals.result.now) (sums_items c.args.lemma.now.sums c.args.steps.now c.args.ending) (sums_items c.sums.result.now c.args.steps.now c.args.ending) (ap literal_items c.literals.ensures) (ap (λ (zs : List SumLiteral). sums_items zs c.args.steps.now c.args.ending) c.sums.ensures) c.in_ok-put_literals.ensures.ok) c.put_sums_on.ensures.err
