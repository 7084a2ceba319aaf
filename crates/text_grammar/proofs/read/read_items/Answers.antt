use Rattle.text_grammar.proofs.TokenLoop.{has_read_more, stops_at_token, stops_at_end, is_whole}
use Rattle.text_grammar.proofs.read.read_items.Goals as goal

pub returns-in-Refused-clause-stops : goal.returns-in-Refused-clause-stops
returns-in-Refused-clause-stops c =
    stops_at_token c.args.text.now c.args.tokens.now c.loop-token.token-index c.loop-token.reader c.take.new.self c.lexeme.result c.in_ok-take.field-0 _
    c.loop-token-test.true c.loop-token.invariant c.lexeme.ensures c.in_ok-take.ensures c.in-Refused.is

pub loop-token-preserved : goal.loop-token-preserved
loop-token-preserved c =
    has_read_more c.args.text.now c.args.tokens.now c.loop-token.token-index c.loop-token.reader c.take.new.self c.lexeme.result c.in_ok-take.field-0 _
    c.loop-token-test.true c.loop-token.invariant c.lexeme.ensures c.in_ok-take.ensures c.in-Taken.is

pub returns-then-has_ended-clause-ok : goal.returns-then-has_ended-clause-ok
returns-then-has_ended-clause-ok c =
    is_whole c.args.text.now c.args.tokens.now c.loop-token.token-index c.loop-token.reader c.into_items.result.items c.has_ended.result
    c.loop-token-test.false c.loop-token.invariant c.has_ended.ensures c.if-has_ended.true c.into_items.ensures

pub returns-else-has_ended-clause-stops : goal.returns-else-has_ended-clause-stops
returns-else-has_ended-clause-stops c =
    stops_at_end c.args.text.now c.args.tokens.now c.loop-token.token-index c.loop-token.reader c.has_ended.result
    c.loop-token-test.false c.loop-token.invariant c.has_ended.ensures c.if-has_ended.false
