use Rattle.std.proofs.Common.{◌≡◌, ◌++◌, drop}
use Rattle.std.specs.Prelude.{flat_map}
use Rattle.qc_model.specs.Canonical.{variable_text}
use Rattle.qc_print.proofs.problem.put_variables.Given as goal

abbrev pub invariant-loop-variable : goal.invariant-loop-variable
invariant-loop-variable l = l.out.items ++ flat_map variable_text (drop l.variable-index l.variables) ≡ l.fn.out.items ++ flat_map variable_text l.variables
