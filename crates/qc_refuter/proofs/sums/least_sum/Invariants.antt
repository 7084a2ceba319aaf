use Rattle.std.proofs.Common.{◌≡◌, ◌≤◌, ◌*◌, ◌^◌, drop, map}
use Rattle.std.specs.Prelude.{◌+ℤ◌, unsigned_abs}
use Rattle.qc_model.specs.Left.{sum_range}
use Rattle.qc_model.specs.Refuted.{left_to}
use Rattle.qc_refuter.specs.Met.{seen}
use Rattle.qc_refuter.proofs.sums.least_sum.Given as goal

abbrev pub invariant-loop-k : goal.invariant-loop-k
invariant-loop-k l = record {
  small : unsigned_abs l.sum ≤ l.k * 10 ^ 18;
  sum : l.sum +ℤ (sum_range (drop l.k l.factors) (drop l.k (map (left_to (seen l.view)) l.items))).from ≡ (sum_range l.factors (map (left_to (seen l.view)) l.items)).from;
}
