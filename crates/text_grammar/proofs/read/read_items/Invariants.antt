use Rattle.text_grammar.proofs.TokenLoop.{HasRead}
use Rattle.text_grammar.proofs.read.read_items.Given as goal

abbrev pub invariant-loop-token : goal.invariant-loop-token
invariant-loop-token l = HasRead l.text l.tokens l.token-index l.reader
