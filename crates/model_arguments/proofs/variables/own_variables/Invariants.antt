use Rattle.std.proofs.Common.{◌≡◌, ◌++◌, drop}
use Rattle.qc_model.specs.Arguments.{variables_of}
use Rattle.model_arguments.specs.Written.{variable_numbers}
use Rattle.model_arguments.proofs.variables.own_variables.Given as goal

abbrev pub invariant-loop-argument : goal.invariant-loop-argument
invariant-loop-argument l = variable_numbers l.found.items ++ variables_of (drop l.argument-index l.args) ≡ variables_of l.args
