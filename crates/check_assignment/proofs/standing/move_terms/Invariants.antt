use Rattle.check_assignment.proofs.Standings.{AreMoved}
use Rattle.check_assignment.proofs.standing.move_terms.Given as goal

abbrev pub invariant-loop-term : goal.invariant-loop-term
invariant-loop-term l = AreMoved l.initial.standings l.terms l.step l.term-index l.standings
