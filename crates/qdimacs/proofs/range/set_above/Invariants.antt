use Rattle.std.proofs.Common.{◌≡◌, drop}
use Rattle.qdimacs.specs.Refusals.{first_place, number_above}
use Rattle.qdimacs.proofs.range.set_above.Given as goal

abbrev pub invariant-loop-number : goal.invariant-loop-number
invariant-loop-number l = first_place (number_above l.most) (drop l.number-index l.number-items) ≡ first_place (number_above l.most) l.number-items
