use Rattle.qdimacs.proofs.Stops.{HasRead}
use Rattle.qdimacs.proofs.parse.parse.Given as goal

abbrev pub invariant-loop-token : goal.invariant-loop-token
invariant-loop-token l = HasRead l.tokens l.token-index l.reader
