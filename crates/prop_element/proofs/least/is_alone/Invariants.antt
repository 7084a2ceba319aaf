use Rattle.std.proofs.Common.{◌≡◌, ◌<◌, ℕ, false}
use Rattle.std.specs.Prelude.{◌<ℤ◌}
use Rattle.qc_model.specs.Domains.{least_value, greatest_value}
use Rattle.qc_model.specs.Refuted.{left_to}
use Rattle.model_arguments.specs.Repeats.{same_variable}
use Rattle.prop_element.specs.Extremes.{item_at}
use Rattle.prop_element.proofs.least.is_alone.Given as goal

abbrev pub invariant-loop-k : goal.invariant-loop-k
invariant-loop-k l =
    (j : ℕ) → j < l.k → same_variable (item_at l.items l.p) (item_at l.items j) ≡ false → greatest_value (left_to l.store.box l.fn.m) <ℤ least_value (left_to l.store.box (item_at l.items j))
