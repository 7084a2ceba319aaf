use Rattle.std.proofs.Common.{◌≡◌, ◌<◌, Bool, length, true, false}
use Rattle.std.specs.Prelude.{◌≤ℤ◌}
use Rattle.prop_base.specs.Filtering.{Fits, Prunes}
use Rattle.prop_linear.specs.Tightening.{AlikeOutside, least_sum}
use Rattle.prop_linear.specs.Sides.{AreNear, signed}
use Rattle.prop_linear.proofs.rounds.tighten_round.Given as goal

abbrev pub invariant-loop-k : goal.invariant-loop-k
invariant-loop-k l = record {
  pruning : Prunes l.asked l.initial.store l.store l.initial.steps l.steps;
  fits : Fits l.asked l.store;
  rises : (b : Bool) → least_sum (signed b l.factors) l.items l.initial.store.box ≤ℤ least_sum (signed b l.factors) l.items l.store.box;
  alike : AlikeOutside l.items l.initial.store.box l.store.box;
  near : l.changed ≡ false → AreNear l.k l.s l.t l.factors l.items l.initial.store.box;
  same : l.changed ≡ false → l.steps ≡ l.initial.steps;
  grown : l.changed ≡ true → length l.initial.steps < length l.steps;
}
