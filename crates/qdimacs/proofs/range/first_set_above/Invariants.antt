use Rattle.std.proofs.Common.{◌≡◌, drop}
use Rattle.qdimacs.specs.Refusals.{first_place, set_above}
use Rattle.qdimacs.proofs.range.first_set_above.Given as goal

abbrev pub invariant-loop-set : goal.invariant-loop-set
invariant-loop-set l = first_place (set_above l.most) (drop l.set-index l.sets) ≡ first_place (set_above l.most) l.sets
