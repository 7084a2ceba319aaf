use Rattle.std.proofs.Common.{◌≡◌, ◌+◌, ◌≤◌, ℕ, length}
use Rattle.std.specs.Prelude.{slice_get}
use Rattle.qc_model.specs.Demands.{demands}
use Rattle.joins.specs.DemandLists.{items_of}
use Rattle.joins.proofs.demands.Demands.new.Given as goal

abbrev pub invariant-loop-i : goal.invariant-loop-i
invariant-loop-i l = record {
  count : length l.lists.items ≡ l.i + 1;
  list : (k : ℕ) → k ≤ l.i → items_of (slice_get l.lists.items k) ≡ demands l.problem k;
}
