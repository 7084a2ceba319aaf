use Rattle.std.proofs.Common.{◌≡◌, ◌++◌, drop, map}
use Rattle.std.specs.Prelude.{slice_index_or}
use Rattle.qdimacs.specs.Content.{arg_of, negatives}
use Rattle.qdimacs.specs.Refusals.{literal_of}
use Rattle.qdimacs.proofs.draft.negatives.Given as goal

abbrev pub invariant-loop-literal : goal.invariant-loop-literal
invariant-loop-literal l = l.args ++ map (arg_of (λ x. slice_index_or l.table x 0)) (negatives (map literal_of (drop l.literal-index l.literals))) ≡ map (arg_of (λ x. slice_index_or l.table x 0)) (negatives (map literal_of l.literals))
