use Rattle.std.proofs.Common.{◌≡◌, ◌≤◌, ◌*◌, ◌^◌, [], map, drop}
use Rattle.std.specs.Prelude.{◌+ℤ◌, unsigned_abs}
use Rattle.qc_model.specs.Holds.{arg_value, sum_of_products}
use Rattle.check_assignment.proofs.begin.first_sum.Given as goal

abbrev pub invariant-loop-k : goal.invariant-loop-k
invariant-loop-k l = record {
  value : l.total +ℤ sum_of_products (drop l.k l.factors) (map (arg_value []) (drop l.k l.items)) ≡ sum_of_products l.factors (map (arg_value []) l.items);
  small : unsigned_abs l.total ≤ l.k * 10 ^ 18;
}
