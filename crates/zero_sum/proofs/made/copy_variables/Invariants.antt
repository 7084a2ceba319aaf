use Rattle.std.proofs.Common.{◌≡◌, ◌++◌, drop}
use Rattle.zero_sum.proofs.made.copy_variables.Given as goal

abbrev pub invariant-loop-variable : goal.invariant-loop-variable
invariant-loop-variable l = l.copies.items ++ drop l.variable-index l.variables ≡ l.variables
