use Rattle.std.proofs.Common.{◌≡◌, ◌++◌, drop, map}
use Rattle.qc_pessimist.specs.Opposed.{move_variable}
use Rattle.qc_pessimist.specs.Table.{place_in}
use Rattle.qc_pessimist.proofs.opposed.moved_variables.Given as goal

abbrev pub invariant-loop-variable : goal.invariant-loop-variable
invariant-loop-variable l =
    l.moved.items ++ map (move_variable (place_in l.table)) (drop l.variable-index l.variables) ≡ map (move_variable (place_in l.table)) l.variables
