use Rattle.std.proofs.Common.{◌≡◌, ◌≤◌, ◌*◌, ◌^◌, drop, map}
use Rattle.std.specs.Prelude.{unsigned_abs}
use Rattle.qc_model.specs.Left.{sum_range}
use Rattle.qc_model.specs.Ranges.{range_of, range_sum}
use Rattle.qc_model.specs.Refuted.{left_to}
use Rattle.prop_linear.specs.Sides.{IsWidest}
use Rattle.prop_linear.proofs.sums.spread_of_many.Given as goal

abbrev pub invariant-loop-k : goal.invariant-loop-k
invariant-loop-k l = record {
  small_from : unsigned_abs l.from ≤ l.k * 10 ^ 18;
  small_to : unsigned_abs l.to ≤ l.k * 10 ^ 18;
  sum : range_sum (range_of l.from l.to) (sum_range (drop l.k l.factors) (drop l.k (map (left_to l.store.box) l.items))) ≡ sum_range l.factors (map (left_to l.store.box) l.items);
  widest : IsWidest l.widest.moves l.k l.factors l.items l.store.box;
}
