use Rattle.std.proofs.Common.{◌≡◌, drop}
use Rattle.qdimacs.specs.Refusals.{first_place, clause_above}
use Rattle.qdimacs.proofs.range.first_clause_above.Given as goal

abbrev pub invariant-loop-clause : goal.invariant-loop-clause
invariant-loop-clause l = first_place (clause_above l.most) (drop l.clause-index l.clauses) ≡ first_place (clause_above l.most) l.clauses
