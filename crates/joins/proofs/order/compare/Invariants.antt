use Rattle.std.proofs.Common.{◌≡◌, drop}
use Rattle.joins.specs.Order.{vector_order}
use Rattle.joins.proofs.order.compare.Given as goal

abbrev pub invariant-loop-k : goal.invariant-loop-k
invariant-loop-k l = vector_order (drop l.k l.list) (drop l.k l.v) (drop l.k l.w) ≡ vector_order l.list l.v l.w
