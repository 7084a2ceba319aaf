use Rattle.std.proofs.Common.{◌≡◌, ◌≤◌, ◌*◌, ◌^◌, drop}
use Rattle.std.specs.Prelude.{◌+ℤ◌, unsigned_abs}
use Rattle.model_evaluation.specs.Evaluation.{item_values}
use Rattle.qc_model.specs.Holds.{sum_of_products}
use Rattle.dense_alike.proofs.sums.sum_of.Given as goal

abbrev pub invariant-loop-k : goal.invariant-loop-k
invariant-loop-k l = record {
  small : unsigned_abs l.sum ≤ l.k * 10 ^ 18;
  sum : (l.sum +ℤ sum_of_products (drop l.k l.factors) (drop l.k (item_values l.values l.items))) ≡ sum_of_products l.factors (item_values l.values l.items);
}
