use Rattle.std.proofs.Common.{◌≡◌, map, take}
use Rattle.qc_model.specs.declared.problem.Variable.{Variable}
use Rattle.likeness.proofs.sources.own_scopes.Given as goal

abbrev pub invariant-loop-variable : goal.invariant-loop-variable
invariant-loop-variable l = l.upto.items ≡ map (λ (x : Variable). x.scope.0) (take l.variable-index l.problem.variables)
