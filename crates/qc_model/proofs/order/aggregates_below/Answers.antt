use Rattle.std.proofs.Common.{ltb, arith, rules, sym}
use Rattle.std.proofs.lemmas.List.Sorted.{IsPartitionPoint-from_clause, IsPartitionedBy-ltb}
use Rattle.qc_model.proofs.InOrder.{counted_at}
use Rattle.qc_model.proofs.order.aggregates_below.Goals as goal

pub returns-clause-count : goal.returns-clause-count
returns-clause-count c =
    let parted = IsPartitionedBy-ltb (λ x. x.scope.0) _ c.args.i c.requires in
    let point = IsPartitionPoint-from_clause (λ x. ltb x.scope.0 c.args.i) _ _ c.partition_point.ensures.partitioned parted (λ a r q k. search rules) in
    sym (counted_at (λ x. x.scope.0) (λ x. ltb x.scope.0 c.args.i) c.args.all.now c.partition_point.result c.partition_point.ensures.bound
    (λ k d lt. point.0 k d (omega arith) (omega arith))
    (λ k d le lt. point.1 k d le lt))
