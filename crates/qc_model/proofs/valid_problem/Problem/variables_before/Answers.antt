use Rattle.std.proofs.Common.{length}
use Rattle.qc_model.proofs.InOrder.{in_order_rises}
use Rattle.qc_model.proofs.valid_problem.Problem.variables_before.Goals as goal

pub variables_below-requires : goal.variables_below-requires
variables_below-requires c = rw c.all_variables.ensures (in_order_rises (λ x. x.scope.0) (length c.args.self.now.scopes) c.args.self.now.variables c.known.ensures.variable_order)
