use Rattle.std.proofs.Common.{refl, map, arith}
use Rattle.std.specs.Prelude.{slice_index_or}
use Rattle.qdimacs.specs.Content.{arg_of, negatives}
use Rattle.qdimacs.specs.Refusals.{literal_of}
use Rattle.qdimacs.proofs.Steps.{ended}
use Rattle.qdimacs.proofs.draft.negatives.Goals as goal

pub returns : goal.returns
returns c =
    ended (λ ls. map (arg_of (λ x. slice_index_or c.args.table.now x 0)) (negatives (map literal_of ls)))
    c.args.literals.now c.loop-literal.literal-index
    c.loop-literal.args _ refl (omega arith) c.loop-literal.invariant
