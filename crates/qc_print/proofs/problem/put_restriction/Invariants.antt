use Rattle.std.proofs.Common.{◌≡◌, ◌++◌, drop}
use Rattle.std.specs.Prelude.{flat_map}
use Rattle.qc_model.specs.Canonical.{constraint_text}
use Rattle.qc_print.proofs.problem.put_restriction.Given as goal

abbrev pub invariant-loop-constraint : goal.invariant-loop-constraint
invariant-loop-constraint l = l.out.items ++ flat_map (constraint_text l.variables) (drop l.constraint-index l.constraints) ≡ l.fn.out.items ++ flat_map (constraint_text l.variables) l.constraints
