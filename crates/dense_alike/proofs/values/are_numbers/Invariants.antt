use Rattle.std.proofs.Common.{◌≡◌, drop}
use Rattle.std.specs.Prelude.{flat_map}
use Rattle.qc_model.specs.Arguments.{arg_variables}
use Rattle.qc_model.specs.Verdict.{is_none_of}
use Rattle.dense_alike.proofs.values.are_numbers.Given as goal

abbrev pub invariant-loop-item : goal.invariant-loop-item
invariant-loop-item l = is_none_of (flat_map arg_variables (drop l.item-index l.items)) ≡ is_none_of (flat_map arg_variables l.items)
