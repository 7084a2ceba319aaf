use Rattle.std.proofs.Common.{length}
use Rattle.qdimacs.proofs.Pieces.{IsCut}
use Rattle.qdimacs.proofs.scan.tokens.Given as goal

abbrev pub invariant-loop-first : goal.invariant-loop-first
invariant-loop-first l = IsCut l.text l.tokens.items l.left l.at l.fresh

abbrev pub decreases-loop-first : goal.decreases-loop-first
decreases-loop-first l = length l.left
