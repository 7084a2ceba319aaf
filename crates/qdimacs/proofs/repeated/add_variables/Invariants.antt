use Rattle.std.proofs.Common.{◌≡◌, drop}
use Rattle.qdimacs.specs.Refusals.{is_known, first_repeated, known_after}
use Rattle.qdimacs.proofs.repeated.add_variables.Given as goal

abbrev pub invariant-loop-variable : goal.invariant-loop-variable
invariant-loop-variable l = (first_repeated (is_known l.seen) (drop l.variable-index l.variables) ≡ first_repeated (is_known l.initial.seen) l.variables) × (known_after (is_known l.seen) (drop l.variable-index l.variables) ≡ known_after (is_known l.initial.seen) l.variables)
