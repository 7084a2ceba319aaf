use Rattle.std.proofs.Common.{◌≡◌, take, []}
use Rattle.std.specs.Prelude.{flat_map}
use Rattle.qc_model.specs.Arguments.{arg_variables}
use Rattle.prop_base.proofs.emptying.variable_among.Given as goal

abbrev pub invariant-loop-item : goal.invariant-loop-item
invariant-loop-item l = flat_map arg_variables (take l.item-index l.items) ≡ []
