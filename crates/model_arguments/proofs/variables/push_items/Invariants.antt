use Rattle.std.proofs.Common.{◌≡◌, ◌++◌, drop}
use Rattle.std.specs.Prelude.{flat_map}
use Rattle.qc_model.specs.Arguments.{arg_variables}
use Rattle.model_arguments.specs.Written.{variable_numbers}
use Rattle.model_arguments.proofs.variables.push_items.Given as goal

abbrev pub invariant-loop-item : goal.invariant-loop-item
invariant-loop-item l =
    variable_numbers l.found.items ++ flat_map arg_variables (drop l.item-index l.items) ≡ variable_numbers l.initial.found.items ++ flat_map arg_variables l.items
