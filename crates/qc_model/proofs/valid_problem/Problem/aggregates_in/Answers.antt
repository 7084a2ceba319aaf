use Rattle.std.proofs.Common.{length}
use Rattle.qc_model.proofs.InOrder.{in_order_rises, below_up, part_equal}
use Rattle.qc_model.proofs.valid_problem.Problem.aggregates_in.Goals as goal

pub aggregates_below-from-requires : goal.aggregates_below-from-requires
aggregates_below-from-requires c = rw c.all_aggregates-all.ensures (in_order_rises (λ x. x.scope.0) (length c.args.self.now.scopes) c.args.self.now.aggregates c.known.ensures.aggregate_order)

pub aggregates_below-to-requires : goal.aggregates_below-to-requires
aggregates_below-to-requires c = rw c.all_aggregates-all.ensures (in_order_rises (λ x. x.scope.0) (length c.args.self.now.scopes) c.args.self.now.aggregates c.known.ensures.aggregate_order)

pub overflow_sub-to : goal.overflow_sub-to
overflow_sub-to c = rw (c.aggregates_below-from.ensures.count, c.aggregates_below-to.ensures.count) (below_up (λ x. x.scope.0) c.args.i c.all_aggregates-all.result.now)

pub returns : goal.returns
returns c =
    rw (c.split_at-2.ensures.front, c.split_at.ensures.back, c.aggregates_below-from.ensures.count, c.aggregates_below-to.ensures.count, c.all_aggregates-all.ensures)
    (part_equal (λ x. x.scope.0) (length c.args.self.now.scopes) c.args.i c.args.self.now.aggregates c.known.ensures.aggregate_order)
