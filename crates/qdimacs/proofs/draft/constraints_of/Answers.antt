use Rattle.std.proofs.Common.{refl, map, arith}
use Rattle.std.specs.Prelude.{slice_index_or}
use Rattle.qdimacs.specs.Content.{rule_of}
use Rattle.qdimacs.specs.Refusals.{clause_of}
use Rattle.qdimacs.proofs.Steps.{ended}
use Rattle.qdimacs.proofs.draft.constraints_of.Goals as goal

pub returns : goal.returns
returns c =
    ended (λ cs. map (rule_of c.args.goal (λ x. slice_index_or c.args.table.now x 0)) (map clause_of cs))
    c.args.clauses.now c.loop-clause.clause-index c.loop-clause.constraints.items _ refl (omega arith) c.loop-clause.invariant
