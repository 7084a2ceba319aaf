use Rattle.std.proofs.Common.{◌≡◌, ◌++◌, drop, map}
use Rattle.qc_pessimist.specs.Opposed.{move_rule}
use Rattle.qc_pessimist.specs.Table.{place_in}
use Rattle.qc_pessimist.proofs.opposed.moved_constraints.Given as goal

abbrev pub invariant-loop-c : goal.invariant-loop-c
invariant-loop-c l =
    l.moved.items ++ map (move_rule (place_in l.table)) (drop l.c l.problem.constraints) ≡ map (move_rule (place_in l.table)) l.problem.constraints
