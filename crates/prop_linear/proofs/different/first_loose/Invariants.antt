use Rattle.std.proofs.Common.{◌≡◌, ◌<◌, ◌≤◌, ℕ, false}
use Rattle.prop_linear.specs.Unequal.{loose_at}
use Rattle.prop_linear.proofs.different.first_loose.Given as goal

abbrev pub invariant-loop-k : goal.invariant-loop-k
invariant-loop-k l = (j : ℕ) → l.from ≤ j → j < l.k → loose_at l.factors l.items l.store.box j ≡ false
