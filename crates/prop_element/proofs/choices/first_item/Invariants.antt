use Rattle.std.proofs.Common.{◌≡◌, ℕ, ◌<◌, false}
use Rattle.prop_element.specs.Choices.{item_fits}
use Rattle.prop_element.proofs.choices.first_item.Given as goal

abbrev pub invariant-loop-k : goal.invariant-loop-k
invariant-loop-k l = (j : ℕ) → j < l.k → item_fits l.store.box l.a l.items l.r j ≡ false
