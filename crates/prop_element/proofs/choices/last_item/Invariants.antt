use Rattle.std.proofs.Common.{◌≡◌, ℕ, ◌<◌, ◌≤◌, false, length}
use Rattle.prop_element.specs.Choices.{item_fits}
use Rattle.prop_element.proofs.choices.last_item.Given as goal

abbrev pub invariant-loop-k : goal.invariant-loop-k
invariant-loop-k l = record {
  most : l.k ≤ length l.items;
  none : (j : ℕ) → l.k ≤ j → j < length l.items → item_fits l.store.box l.a l.items l.r j ≡ false;
}

abbrev pub decreases-loop-k : goal.decreases-loop-k
decreases-loop-k l = l.k
