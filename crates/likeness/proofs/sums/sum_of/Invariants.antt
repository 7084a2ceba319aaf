use Rattle.std.proofs.Common.{◌≡◌, map, drop}
use Rattle.std.specs.Prelude.{◌+ℤ◌}
use Rattle.qc_model.specs.Holds.{arg_value, sum_of_products}
use Rattle.likeness.proofs.sums.sum_of.Given as goal

abbrev pub invariant-loop-k : goal.invariant-loop-k
invariant-loop-k l = (l.sum +ℤ sum_of_products (drop l.k l.factors) (drop l.k (map (arg_value l.values) l.items))) ≡ sum_of_products l.factors (map (arg_value l.values) l.items)
