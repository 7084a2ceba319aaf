use Rattle.std.proofs.Common.{◌≡◌, ◌+◌, ◌≤◌, ◌<◌, false}
use Rattle.prop_base.specs.Closed.{IsCut}
use Rattle.prop_base.specs.Wider.{wider, refutes_range}
use Rattle.prop_base.proofs.ranges.reach.Given as goal

abbrev pub invariant-loop-doubted : goal.invariant-loop-doubted
invariant-loop-doubted g l = record {
  cut : IsCut l.rule l.store.box (wider l.after l.range l.refuted);
  room : l.refuted + l.doubted ≤ l.room;
  widest : l.refuted + l.doubted < l.room → refutes_range l.rule l.store.box (wider l.after l.range (l.refuted + l.doubted + 1)) ≡ false;
}

abbrev pub decreases-loop-doubted : goal.decreases-loop-doubted
decreases-loop-doubted g l = l.doubted
