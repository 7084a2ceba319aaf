use Rattle.std.proofs.Common.{◌≡◌, ◌≤◌, length, drop, reverse}
use Rattle.search_trim.specs.Slice.{slice_from, last_marks}
use Rattle.search_trim.proofs.slice.slice.Given as goal

abbrev pub invariant-loop-k : goal.invariant-loop-k
invariant-loop-k l = record {
  within : l.k ≤ length l.steps;
  sliced : slice_from l.problem (last_marks l.steps) (drop l.k l.steps) ≡ record { marks = l.marks; less = reverse l.into.items };
}

abbrev pub decreases-loop-k : goal.decreases-loop-k
decreases-loop-k l = l.k
