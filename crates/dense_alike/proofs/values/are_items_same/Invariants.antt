use Rattle.std.proofs.Common.{◌≡◌, drop}
use Rattle.std.specs.Prelude.{flat_map}
use Rattle.qc_model.specs.Arguments.{arg_variables}
use Rattle.qc_model.specs.Lists.{same_values}
use Rattle.likeness.specs.Seeing.{values_of}
use Rattle.dense_alike.proofs.values.are_items_same.Given as goal

abbrev pub invariant-loop-item : goal.invariant-loop-item
invariant-loop-item l =
    same_values (values_of l.here (flat_map arg_variables (drop l.item-index l.items))) (values_of l.there (flat_map arg_variables (drop l.item-index l.items)))
    ≡ same_values (values_of l.here (flat_map arg_variables l.items)) (values_of l.there (flat_map arg_variables l.items))
