use Rattle.std.proofs.Common.{◌≡◌, drop}
use Rattle.qdimacs.specs.Refusals.{first_place, literal_above}
use Rattle.qdimacs.proofs.range.clause_above.Given as goal

abbrev pub invariant-loop-literal : goal.invariant-loop-literal
invariant-loop-literal l = first_place (literal_above l.most) (drop l.literal-index l.literal-items) ≡ first_place (literal_above l.most) l.literal-items
