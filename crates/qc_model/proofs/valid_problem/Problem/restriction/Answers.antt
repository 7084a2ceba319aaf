use Rattle.std.proofs.Common.{length, ◌+◌}
use Rattle.qc_model.proofs.InOrder.{in_order_rises, below_up, part_equal}
use Rattle.qc_model.proofs.valid_problem.Problem.restriction.Goals as goal

pub constraints_below-from-requires : goal.constraints_below-from-requires
constraints_below-from-requires c = rw c.all_constraints-all.ensures (in_order_rises (λ x. x.owner.0) (length c.args.self.now.scopes + 1) c.args.self.now.constraints c.known.ensures.constraint_order)

pub constraints_below-to-requires : goal.constraints_below-to-requires
constraints_below-to-requires c = rw c.all_constraints-all.ensures (in_order_rises (λ x. x.owner.0) (length c.args.self.now.scopes + 1) c.args.self.now.constraints c.known.ensures.constraint_order)

pub overflow_sub-to : goal.overflow_sub-to
overflow_sub-to c = rw (c.constraints_below-from.ensures.count, c.constraints_below-to.ensures.count) (below_up (λ x. x.owner.0) c.args.i c.all_constraints-all.result.now)

pub returns : goal.returns
returns c =
    rw (c.split_at-2.ensures.front, c.split_at.ensures.back, c.constraints_below-from.ensures.count, c.constraints_below-to.ensures.count, c.all_constraints-all.ensures)
    (part_equal (λ x. x.owner.0) (length c.args.self.now.scopes + 1) c.args.i c.args.self.now.constraints c.known.ensures.constraint_order)
