use Rattle.std.proofs.Common.{◌≡◌, ◌+◌, ◌<◌, ℕ, length}
use Rattle.std.specs.Prelude.{slice_index}
use Rattle.model_levels.specs.Spans.{constraints_before}
use Rattle.model_levels.proofs.places.constraint_places.Given as goal

abbrev pub invariant-loop-i : goal.invariant-loop-i
invariant-loop-i l = record {
  count : length l.places.items ≡ l.i + 1;
  last : l.place ≡ constraints_before l.problem l.i;
  each : (k : ℕ) → k < length l.places.items → slice_index l.places.items k ≡ constraints_before l.problem k;
}
