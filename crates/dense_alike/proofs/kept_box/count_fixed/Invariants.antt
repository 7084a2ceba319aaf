use Rattle.dense_alike.specs.Ranges.{AreSingle}
use Rattle.dense_alike.proofs.kept_box.count_fixed.Given as goal

abbrev pub invariant-loop-x : goal.invariant-loop-x
invariant-loop-x l = AreSingle l.store.box l.x
