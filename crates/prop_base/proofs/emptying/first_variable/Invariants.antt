use Rattle.std.proofs.Common.{◌≡◌, take, []}
use Rattle.std.specs.Prelude.{flat_map}
use Rattle.qc_model.specs.Arguments.{argument_variables}
use Rattle.prop_base.proofs.emptying.first_variable.Given as goal

abbrev pub invariant-loop-argument : goal.invariant-loop-argument
invariant-loop-argument l = flat_map argument_variables (take l.argument-index l.argument-items) ≡ []
