use Rattle.game_search.proofs.Kept.{IsKeeping}
use Rattle.std.proofs.Common.{length}
use Rattle.game_search.proofs.pieces.keep_all.Given as goal

abbrev pub invariant-loop-rest : goal.invariant-loop-rest
invariant-loop-rest l = IsKeeping l.problem l.keeps l.fn.remains l.rest l.remains

abbrev pub decreases-loop-rest : goal.decreases-loop-rest
decreases-loop-rest l = length l.rest
