use Rattle.std.proofs.Common.{◌≡◌, ◌<◌, length, true, false}
use Rattle.prop_base.specs.Filtering.{Fits, Prunes}
use Rattle.prop_base.specs.Pruning.{total}
use Rattle.prop_base.proofs.cutting.filter_by_cuts.Given as goal

abbrev pub invariant-loop-cut : goal.invariant-loop-cut
invariant-loop-cut g l = record {
  pruning : Prunes l.asked l.initial.store l.store l.initial.steps l.steps;
  fits : Fits l.asked l.store;
  same : l.changed ≡ false → l.steps ≡ l.initial.steps;
  grown : l.changed ≡ true → length l.initial.steps < length l.steps;
}

abbrev pub decreases-loop-cut : goal.decreases-loop-cut
decreases-loop-cut g l = total l.store.box
