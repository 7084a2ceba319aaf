use Rattle.std.proofs.Common.{◌≡◌, drop}
use Rattle.qdimacs.specs.Refusals.{is_known, repeated_in_sets, known_after_sets}
use Rattle.qdimacs.proofs.repeated.add_sets.Given as goal

abbrev pub invariant-loop-set : goal.invariant-loop-set
invariant-loop-set l = (repeated_in_sets (is_known l.seen) (drop l.set-index l.sets) ≡ repeated_in_sets (is_known l.initial.seen) l.sets) × (known_after_sets (is_known l.seen) (drop l.set-index l.sets) ≡ known_after_sets (is_known l.initial.seen) l.sets)
