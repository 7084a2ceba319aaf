use Rattle.std.proofs.Common.{ℕ, ◌<◌, ℤ}
use Rattle.std.specs.Prelude.{◌≤ℤ◌}
use Rattle.prop_element.specs.Choices.{IsMet, IsMetSomewhere}
use Rattle.prop_element.proofs.choices.highest_met.Given as goal

abbrev pub invariant-loop-k : goal.invariant-loop-k
invariant-loop-k l = record {
  some : IsMetSomewhere l.store.box l.a l.items l.r l.best;
  all : (j : ℕ) (w : ℤ) → j < l.k → IsMet l.store.box l.a l.items l.r j w → w ≤ℤ l.best;
}
