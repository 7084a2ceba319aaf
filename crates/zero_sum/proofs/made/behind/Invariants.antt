use Rattle.std.proofs.Common.{◌≡◌, ℕ, ◌<◌, ◌≤◌}
use Rattle.std.specs.Prelude.{Some, slice_get}
use Rattle.qc_model.specs.Content.{Rule}
use Rattle.zero_sum.proofs.made.behind.Given as goal

abbrev pub invariant-loop-i : goal.invariant-loop-i
invariant-loop-i l = (k : ℕ) (c : Rule) → k < l.i → slice_get l.constraints k ≡ Some c → c.owner.0 ≤ l.place.0
