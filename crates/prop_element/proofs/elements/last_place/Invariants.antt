use Rattle.std.proofs.Common.{◌≡◌, ◌<◌, ◌≤◌, ℕ, false, length}
use Rattle.qc_model.specs.Refuted.{left_to}
use Rattle.prop_element.specs.Elements.{place_fits}
use Rattle.prop_element.proofs.elements.last_place.Given as goal

abbrev pub invariant-loop-k : goal.invariant-loop-k
invariant-loop-k l = record {
  most : l.k ≤ length l.numbers;
  none : (j : ℕ) → l.k ≤ j → j < length l.numbers → place_fits (left_to l.store.box l.a) l.numbers (left_to l.store.box l.r) j ≡ false;
}

abbrev pub decreases-loop-k : goal.decreases-loop-k
decreases-loop-k l = l.k
