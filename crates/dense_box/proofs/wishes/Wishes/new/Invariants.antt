use Rattle.std.proofs.Common.{◌≡◌, ◌<◌, ℕ, length}
use Rattle.std.specs.Prelude.{slice_get}
use Rattle.dense_box.specs.Wished.{told_in, tracked_at}
use Rattle.dense_box.proofs.wishes.Wishes.new.Given as goal

abbrev pub invariant-loop-i : goal.invariant-loop-i
invariant-loop-i l = record {
  count : length l.wishes.items ≡ l.i;
  each : (k : ℕ) → k < l.i → told_in (slice_get l.wishes.items k) ≡ tracked_at l.problem k;
}
