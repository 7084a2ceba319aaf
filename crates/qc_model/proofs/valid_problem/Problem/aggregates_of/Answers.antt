use Rattle.std.proofs.Common.{length, add-one}
use Rattle.qc_model.proofs.InOrder.{in_order_rises}
use Rattle.qc_model.proofs.AggregateNumbers.{numbers_are_own}
use Rattle.qc_model.proofs.valid_problem.Problem.aggregates_of.Goals as goal

pub aggregates_below-first-requires : goal.aggregates_below-first-requires
aggregates_below-first-requires c = rw c.all_aggregates-all.ensures (in_order_rises (λ q. q.scope.0) (length c.args.self.now.scopes) c.args.self.now.aggregates c.known.ensures.aggregate_order)

pub aggregates_below-end-requires : goal.aggregates_below-end-requires
aggregates_below-end-requires c = rw c.all_aggregates-all.ensures (in_order_rises (λ q. q.scope.0) (length c.args.self.now.scopes) c.args.self.now.aggregates c.known.ensures.aggregate_order)

pub returns-clause-own : goal.returns-clause-own
returns-clause-own c = λ q. rw (c.aggregates_below-first.ensures.count, c.aggregates_below-end.ensures.count, c.all_aggregates-all.ensures, add-one) (numbers_are_own c.args.self.now c.known.ensures c.args.i.0 q)
