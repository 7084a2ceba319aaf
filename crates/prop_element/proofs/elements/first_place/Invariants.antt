use Rattle.std.proofs.Common.{◌≡◌, ◌<◌, ℕ, false}
use Rattle.qc_model.specs.Refuted.{left_to}
use Rattle.prop_element.specs.Elements.{place_fits}
use Rattle.prop_element.proofs.elements.first_place.Given as goal

abbrev pub invariant-loop-k : goal.invariant-loop-k
invariant-loop-k l = (j : ℕ) → j < l.k → place_fits (left_to l.store.box l.a) l.numbers (left_to l.store.box l.r) j ≡ false
