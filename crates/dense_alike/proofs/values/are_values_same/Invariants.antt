use Rattle.std.proofs.Common.{◌≡◌, drop}
use Rattle.std.specs.Prelude.{flat_map}
use Rattle.qc_model.specs.Arguments.{argument_variables}
use Rattle.qc_model.specs.Lists.{same_values}
use Rattle.likeness.specs.Seeing.{values_of}
use Rattle.dense_alike.proofs.values.are_values_same.Given as goal

abbrev pub invariant-loop-argument : goal.invariant-loop-argument
invariant-loop-argument l =
    same_values (values_of l.here (flat_map argument_variables (drop l.argument-index l.args))) (values_of l.there (flat_map argument_variables (drop l.argument-index l.args)))
    ≡ same_values (values_of l.here (flat_map argument_variables l.args)) (values_of l.there (flat_map argument_variables l.args))
