use Rattle.std.proofs.Common.{refl, sym, ◌∙◌}
use Rattle.qdimacs.proofs.Stops.{has_read_more, stops_at_token, stops_at_end, is_a_file}
use Rattle.qdimacs.proofs.parse.parse.Goals as goal

pub returns-in-Refused-clause-stops : goal.returns-in-Refused-clause-stops
returns-in-Refused-clause-stops c = (
  refl,
  stops_at_token c.args.size c.args.tokens.now c.loop-token.token-index c.loop-token.reader c.take.new.self c.in_ok-take.field-0 _
      c.loop-token-test.true c.loop-token.invariant c.in_ok-take.ensures c.in-Refused.is,
)

pub loop-token-preserved : goal.loop-token-preserved
loop-token-preserved c =
    has_read_more c.args.tokens.now c.loop-token.token-index c.loop-token.reader c.take.new.self c.in_ok-take.field-0 _
    c.loop-token-test.true c.loop-token.invariant c.in_ok-take.ensures c.in-Taken.is

pub returns-then-is_whole-clause-ok : goal.returns-then-is_whole-clause-ok
returns-then-is_whole-clause-ok c =
    is_a_file c.args.tokens.now c.loop-token.token-index c.loop-token.reader c.into_file.result
    c.loop-token-test.false c.loop-token.invariant (sym c.is_whole.ensures ∙ c.if-is_whole.true) c.into_file.ensures

pub returns-else-is_whole-clause-stops : goal.returns-else-is_whole-clause-stops
returns-else-is_whole-clause-stops c = (
  refl,
  stops_at_end c.args.size c.args.tokens.now c.loop-token.token-index c.loop-token.reader
      c.loop-token-test.false c.loop-token.invariant (sym c.is_whole.ensures ∙ c.if-is_whole.false),
)
