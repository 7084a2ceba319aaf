use Rattle.std.proofs.Common.{◌≡◌, ◌<◌, ℕ, true, get_or, length}
use Rattle.std.specs.Prelude.{pos, ◌≤ℤ◌}
use Rattle.qc_model.specs.Refuted.{left_to}
use Rattle.prop_element.specs.Elements.{place_fits}
use Rattle.prop_element.proofs.elements.highest_place.Given as goal

abbrev pub invariant-loop-k : goal.invariant-loop-k
invariant-loop-k l = record {
  place : l.best < length l.numbers;
  fits : place_fits (left_to l.store.box l.a) l.numbers (left_to l.store.box l.r) l.best ≡ true;
  all : (j : ℕ) → j < l.k → place_fits (left_to l.store.box l.a) l.numbers (left_to l.store.box l.r) j ≡ true → get_or l.numbers j (pos 0) ≤ℤ get_or l.numbers l.best (pos 0);
  end : get_or l.numbers l.end (pos 0) ≤ℤ get_or l.numbers l.best (pos 0);
}
