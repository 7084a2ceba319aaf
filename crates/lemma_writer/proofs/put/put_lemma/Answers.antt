use Rattle.std.proofs.Common.{ap, ◌∙◌}
use Rattle.std.proofs.lemmas.Result.{on_ok_weaker, on_err_weaker}
use Rattle.qc_io.proofs.Known.{on_err}
use Rattle.lemma_text.specs.Items.{is_none}
use Rattle.lemma_writer.proofs.Puts.{lemma_put, lemma_fails, body_fails}
use Rattle.lemma_writer.proofs.put.put_lemma.Goals as goal

pub returns-in_err-put_item-clause-err : goal.returns-in_err-put_item-clause-err
returns-in_err-put_item-clause-err g c = on_err _ (lemma_fails (g.K.Sink.written c.args.sink.now) (g.K.Sink.written c.put_item.new.sink) c.args.pieces.now c.args.lemma.now c.args.steps.now c.args.ending c.loser.result c.none_left.result c.loser.ensures (c.none_left.ensures ∙ ap is_none c.literals.ensures) c.in_err-put_item.ensures.err)

pub returns-clause-ok : goal.returns-clause-ok
returns-clause-ok g c =
    on_ok_weaker _ (lemma_put (g.K.Sink.written c.args.sink.now) (g.K.Sink.written c.put_item.new.sink) (g.K.Sink.written c.put_literals_on.new.sink) c.args.pieces.now c.put_item.new.pieces c.put_literals_on.new.pieces c.args.lemma.now c.args.steps.now c.args.ending c.loser.result c.none_left.result c.loser.ensures (c.none_left.ensures ∙ ap is_none c.literals.ensures) c.in_ok-put_item.ensures.ok) c.put_literals_on.ensures.ok

pub returns-clause-err : goal.returns-clause-err
returns-clause-err g c =
    on_err_weaker _ (body_fails (g.K.Sink.written c.args.sink.now) (g.K.Sink.written c.put_item.new.sink) (g.K.Sink.written c.put_literals_on.new.sink) c.args.pieces.now c.put_item.new.pieces c.args.lemma.now c.args.steps.now c.args.ending c.loser.result c.none_left.result c.loser.ensures (c.none_left.ensures ∙ ap is_none c.literals.ensures) c.in_ok-put_item.ensures.ok) c.put_literals_on.ensures.err
