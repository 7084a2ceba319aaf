use Rattle.std.proofs.Common.{◌≡◌, drop}
use Rattle.qdimacs.specs.Refusals.{first_place, long_clause}
use Rattle.qdimacs.proofs.excess.first_long.Given as goal

abbrev pub invariant-loop-clause : goal.invariant-loop-clause
invariant-loop-clause l = first_place long_clause (drop l.clause-index l.clauses) ≡ first_place long_clause l.clauses
