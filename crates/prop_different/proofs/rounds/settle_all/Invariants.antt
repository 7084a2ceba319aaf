use Rattle.std.proofs.Common.{◌≡◌, ◌<◌, length, true, false}
use Rattle.prop_base.specs.Filtering.{Fits, Prunes}
use Rattle.prop_base.specs.Pruning.{total}
use Rattle.prop_different.proofs.rounds.settle_all.Given as goal

abbrev pub invariant-loop-changed : goal.invariant-loop-changed
invariant-loop-changed l = record {
  pruning : Prunes l.asked l.initial.store l.store l.initial.steps l.steps;
  fits : Fits l.asked l.store;
  same : l.changed ≡ false → l.steps ≡ l.initial.steps;
  grown : l.changed ≡ true → length l.initial.steps < length l.steps;
}

abbrev pub decreases-loop-changed : goal.decreases-loop-changed
decreases-loop-changed l = total l.store.box
