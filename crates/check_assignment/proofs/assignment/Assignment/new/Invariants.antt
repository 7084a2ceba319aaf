use Rattle.check_assignment.proofs.Building.{Termed, Stood}
use Rattle.check_assignment.proofs.assignment.Assignment.new.Given as goal

abbrev pub invariant-loop-k : goal.invariant-loop-k
invariant-loop-k l = record {
  terms : Termed l.problem l.k l.terms;
  standings : Stood l.problem l.k l.standings.items;
}
