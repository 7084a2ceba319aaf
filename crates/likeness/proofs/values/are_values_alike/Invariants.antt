use Rattle.std.proofs.Common.{◌≡◌, take}
use Rattle.qc_model.specs.Arguments.{variables_of}
use Rattle.likeness.specs.Seeing.{values_of}
use Rattle.likeness.proofs.values.are_values_alike.Given as goal

abbrev pub invariant-loop-argument : goal.invariant-loop-argument
invariant-loop-argument l = values_of l.kept (variables_of (take l.argument-index l.args)) ≡ values_of l.here (variables_of (take l.argument-index l.args))
