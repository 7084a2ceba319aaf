use Rattle.std.proofs.Common.{◌≡◌, take}
use Rattle.std.specs.Prelude.{flat_map}
use Rattle.qc_model.specs.Arguments.{arg_variables}
use Rattle.likeness.specs.Seeing.{values_of}
use Rattle.likeness.proofs.values.are_items_alike.Given as goal

abbrev pub invariant-loop-item : goal.invariant-loop-item
invariant-loop-item l = values_of l.kept (flat_map arg_variables (take l.item-index l.items)) ≡ values_of l.here (flat_map arg_variables (take l.item-index l.items))
