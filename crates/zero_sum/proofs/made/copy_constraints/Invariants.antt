use Rattle.std.proofs.Common.{◌≡◌, ◌++◌, drop}
use Rattle.zero_sum.proofs.made.copy_constraints.Given as goal

abbrev pub invariant-loop-c : goal.invariant-loop-c
invariant-loop-c l = l.copies.items ++ drop l.c l.problem.constraints ≡ l.problem.constraints
