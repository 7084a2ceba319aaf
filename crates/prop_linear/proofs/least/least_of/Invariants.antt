use Rattle.std.proofs.Common.{◌≡◌, ◌≤◌, ◌*◌, ◌^◌, ℕ, drop, take, map}
use Rattle.std.specs.Prelude.{◌+ℤ◌, unsigned_abs}
use Rattle.qc_model.specs.Left.{sum_range}
use Rattle.qc_model.specs.Refuted.{left_to}
use Rattle.prop_linear.specs.Sides.{signed}
use Rattle.prop_linear.specs.Tightening.{AllNear, least_sum}
use Rattle.prop_linear.proofs.least.least_of.Given as goal

abbrev pub invariant-loop-k : goal.invariant-loop-k
invariant-loop-k l = record {
  small : unsigned_abs l.least ≤ l.k * 10 ^ 18;
  sum : l.least +ℤ (sum_range (drop l.k (signed l.negative l.factors)) (drop l.k (map (left_to l.store.box) l.items))).from ≡ least_sum (signed l.negative l.factors) l.items l.store.box;
  near : (s : ℕ) → l.widest ≤ s → AllNear s (take l.k (signed l.negative l.factors)) (take l.k l.items) l.store.box;
}
