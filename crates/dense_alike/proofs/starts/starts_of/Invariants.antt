use Rattle.std.proofs.Common.{◌≡◌, ◌<◌, ℕ, length}
use Rattle.std.specs.Prelude.{slice_index}
use Rattle.dense_alike.specs.Starts.{IsStart}
use Rattle.dense_alike.proofs.starts.starts_of.Given as goal

abbrev pub invariant-loop-i : goal.invariant-loop-i
invariant-loop-i l = record {
  count : length l.starts.items ≡ l.i;
  each : (j : ℕ) → j < length l.starts.items → IsStart l.problem j (slice_index l.starts.items j);
}
