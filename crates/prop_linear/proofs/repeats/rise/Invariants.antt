use Rattle.std.proofs.Common.{◌≡◌, drop}
use Rattle.prop_linear.specs.Rising.{rise_from}
use Rattle.prop_linear.proofs.repeats.rise.Given as goal

abbrev pub invariant-loop-item : goal.invariant-loop-item
invariant-loop-item l = rise_from l.least (drop l.item-index l.items) ≡ rise_from 0 l.items
