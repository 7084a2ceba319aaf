use Rattle.std.proofs.Common.{◌≡◌, ◌++◌, drop, map}
use Rattle.std.specs.Prelude.{slice_index_or}
use Rattle.qdimacs.specs.Content.{rule_of}
use Rattle.qdimacs.specs.Refusals.{clause_of}
use Rattle.qdimacs.proofs.draft.constraints_of.Given as goal

abbrev pub invariant-loop-clause : goal.invariant-loop-clause
invariant-loop-clause l = l.constraints.items ++ map (rule_of l.goal (λ x. slice_index_or l.table x 0)) (map clause_of (drop l.clause-index l.clauses)) ≡ map (rule_of l.goal (λ x. slice_index_or l.table x 0)) (map clause_of l.clauses)
