use Rattle.qc_refuter.specs.Stretches.{AreSkips}
use Rattle.qc_refuter.proofs.Seated.{AreSeated}
use Rattle.qc_refuter.proofs.stretches.are_too_many.Given as goal

abbrev pub invariant-loop-item : goal.invariant-loop-item
invariant-loop-item l = record {
  skips : AreSkips l.free l.skips;
  seated : AreSeated l.items l.lows l.free l.item-index l.top;
}
