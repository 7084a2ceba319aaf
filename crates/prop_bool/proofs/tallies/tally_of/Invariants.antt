use Rattle.std.proofs.Common.{take}
use Rattle.prop_bool.specs.Parities.{IsTally}
use Rattle.prop_bool.proofs.tallies.tally_of.Given as goal

abbrev pub invariant-loop-item : goal.invariant-loop-item
invariant-loop-item l = IsTally l.tally l.store.box (take l.item-index l.items)
