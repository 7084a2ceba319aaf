use Rattle.qc_model.specs.declared.problem.Variable.{Variable}
use Rattle.likeness.proofs.Steps.{mapped_next, mapped_all}
use Rattle.likeness.proofs.sources.own_scopes.Goals as goal

pub loop-variable-init : goal.loop-variable-init
loop-variable-init c = c.in_ok-upto.ensures.items

pub loop-variable-preserved : goal.loop-variable-preserved
loop-variable-preserved c =
    mapped_next (λ (x : Variable). x.scope.0) c.args.problem.now.variables c.all_variables-variable-items.result.now c.loop-variable.upto.items c.push.new.self.items c.loop-variable.variable-index c.variable-item.result
    c.all_variables-variable-items.ensures c.loop-variable-test.true c.variable-item.is c.loop-variable.invariant c.in_ok-push.ensures.items

pub returns : goal.returns
returns c =
    mapped_all (λ (x : Variable). x.scope.0) c.args.problem.now.variables c.all_variables-variable-items.result.now c.loop-variable.upto.items c.loop-variable.variable-index c.all_variables-variable-items.ensures c.loop-variable-test.false
    c.loop-variable.invariant
