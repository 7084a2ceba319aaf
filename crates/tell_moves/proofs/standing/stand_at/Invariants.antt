use Rattle.tell_moves.proofs.Placed.{IsPlaced}
use Rattle.tell_moves.proofs.standing.stand_at.Given as goal

abbrev pub invariant-loop-i : goal.invariant-loop-i
invariant-loop-i l = IsPlaced l.problem l.values l.i l.taken.items l.rest
