use Rattle.std.proofs.Common.{◌≡◌, ◌<◌, length, take, true, false}
use Rattle.prop_base.specs.Filtering.{Fits, Prunes}
use Rattle.prop_linear.specs.Tightening.{AlikeOutside, AllNear, least_sum}
use Rattle.prop_linear.specs.Sides.{signed}
use Rattle.prop_linear.proofs.tighten.tighten_all.Given as goal

abbrev pub invariant-loop-k : goal.invariant-loop-k
invariant-loop-k l = record {
  pruning : Prunes l.asked l.initial.store l.store l.initial.steps l.steps;
  fits : Fits l.asked l.store;
  alike : AlikeOutside l.items l.initial.store.box l.store.box;
  sum : least_sum (signed l.negative l.factors) l.items l.store.box ≡ least_sum (signed l.negative l.factors) l.items l.initial.store.box;
  near : AllNear l.s (take l.k (signed l.negative l.factors)) (take l.k l.items) l.store.box;
  same : l.changed ≡ false → l.steps ≡ l.initial.steps;
  grown : l.changed ≡ true → length l.initial.steps < length l.steps;
}
