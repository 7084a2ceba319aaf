use Rattle.std.proofs.Common.{◌≡◌, drop}
use Rattle.std.specs.Prelude.{flat_map}
use Rattle.qc_model.specs.Arguments.{argument_variables}
use Rattle.qc_model.specs.Verdict.{is_none_of}
use Rattle.dense_alike.proofs.values.have_no_variables.Given as goal

abbrev pub invariant-loop-argument : goal.invariant-loop-argument
invariant-loop-argument l = is_none_of (flat_map argument_variables (drop l.argument-index l.args)) ≡ is_none_of (flat_map argument_variables l.args)
