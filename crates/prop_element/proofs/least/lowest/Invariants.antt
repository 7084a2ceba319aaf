use Rattle.std.proofs.Common.{◌<◌, ℕ, length}
use Rattle.std.specs.Prelude.{◌≤ℤ◌}
use Rattle.qc_model.specs.Domains.{least_value}
use Rattle.qc_model.specs.Refuted.{left_to}
use Rattle.prop_element.specs.Extremes.{item_at}
use Rattle.prop_element.proofs.least.lowest.Given as goal

abbrev pub invariant-loop-k : goal.invariant-loop-k
invariant-loop-k l = record {
  place : l.best < length l.items;
  all : (j : ℕ) → j < l.k → least_value (left_to l.store.box (item_at l.items l.best)) ≤ℤ least_value (left_to l.store.box (item_at l.items j));
}
