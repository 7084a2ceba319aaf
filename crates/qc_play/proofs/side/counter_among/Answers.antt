use Rattle.std.proofs.Common.{◌∙◌, sym}
use Rattle.qc_play.proofs.Replies.{counter_here, counter_beyond}
use Rattle.qc_play.proofs.side.counter_among.Goals as goal

pub returns-then-is_tuple : goal.returns-then-is_tuple
returns-then-is_tuple c =
    sym c.loop-entry.invariant ∙ counter_here c.args.entries.now c.args.tuple.now c.loop-entry.entry-index c.entry-item.result c.loop-entry-test.true c.entry-item.is (sym c.is_tuple.ensures ∙ c.if-is_tuple.true)

pub loop-entry-preserved : goal.loop-entry-preserved
loop-entry-preserved c =
    sym (counter_beyond c.args.entries.now c.args.tuple.now c.loop-entry.entry-index c.entry-item.result c.loop-entry-test.true c.entry-item.is (sym c.is_tuple.ensures ∙ c.if-is_tuple.false)) ∙ c.loop-entry.invariant
