use Rattle.std.proofs.Common.{◌≡◌, ℕ, ◌≤◌, length}
use Rattle.prop_engine.specs.Skipping.{ArePassed, next_of}
use Rattle.prop_engine.proofs.skipping.Skips.of_problem.Given as goal

abbrev pub invariant-loop-k : goal.invariant-loop-k
invariant-loop-k l = record {
  count : length l.next.items ≡ length l.problem.constraints;
  below : l.k ≤ length l.problem.constraints;
  above : l.k ≤ l.first;
  first : ArePassed l.problem l.k l.first;
  forward : (i : ℕ) → l.k ≤ i → i ≤ next_of l.next.items i;
  passed : (i : ℕ) → l.k ≤ i → ArePassed l.problem i (next_of l.next.items i);
}

abbrev pub decreases-loop-k : goal.decreases-loop-k
decreases-loop-k l = l.k
