use Rattle.std.proofs.Common.{length}
use Rattle.qc_model.proofs.InOrder.{in_order_rises, below_up, part_equal}
use Rattle.qc_model.proofs.valid_problem.Problem.variables_of.Goals as goal

pub variables_below-from-requires : goal.variables_below-from-requires
variables_below-from-requires c = rw c.all_variables-all.ensures (in_order_rises (λ x. x.scope.0) (length c.args.self.now.scopes) c.args.self.now.variables c.known.ensures.variable_order)

pub variables_below-to-requires : goal.variables_below-to-requires
variables_below-to-requires c = rw c.all_variables-all.ensures (in_order_rises (λ x. x.scope.0) (length c.args.self.now.scopes) c.args.self.now.variables c.known.ensures.variable_order)

pub overflow_sub-to : goal.overflow_sub-to
overflow_sub-to c = rw (c.variables_below-from.ensures.count, c.variables_below-to.ensures.count) (below_up (λ x. x.scope.0) c.args.i c.all_variables-all.result.now)

pub returns : goal.returns
returns c =
    rw (c.split_at-2.ensures.front, c.split_at.ensures.back, c.variables_below-from.ensures.count, c.variables_below-to.ensures.count, c.all_variables-all.ensures)
    (part_equal (λ x. x.scope.0) (length c.args.self.now.scopes) c.args.i c.args.self.now.variables c.known.ensures.variable_order)
