use Rattle.std.proofs.Common.{◌≡◌, ◌≤◌, ◌<◌, ◌*◌, ◌^◌, drop, map, ℕ, ℤ, true}
use Rattle.std.specs.Prelude.{unsigned_abs, slice_get, Some}
use Rattle.qc_model.specs.declared.problem.Arg.{Arg}
use Rattle.qc_model.specs.Left.{sum_range}
use Rattle.qc_model.specs.Ranges.{range_of, range_sum}
use Rattle.qc_model.specs.Refuted.{left_to}
use Rattle.dense_quiet.specs.Slack.{IsNear, is_taken}
use Rattle.dense_quiet.proofs.summing.read_sum.Given as goal

abbrev pub invariant-loop-k : goal.invariant-loop-k
invariant-loop-k l = record {
  small_from : unsigned_abs l.from ≤ l.k * 10 ^ 18;
  small_to : unsigned_abs l.to ≤ l.k * 10 ^ 18;
  sum : range_sum (range_of l.from l.to) (sum_range (drop l.k l.factors) (drop l.k (map (left_to (l.store.box)) l.items))) ≡ sum_range l.factors (map (left_to l.store.box) l.items);
  near : (i : ℕ) (n : ℤ) (a : Arg) → i < l.k → slice_get l.factors i ≡ Some n → slice_get l.items i ≡ Some a → is_taken (λ x. true) a ≡ true → IsNear l.widest n (left_to l.store.box a);
}
