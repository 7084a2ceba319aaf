use Rattle.std.proofs.Common.{◌≡◌, drop}
use Rattle.std.specs.Prelude.{flat_map}
use Rattle.qc_model.specs.Arguments.{arg_variables}
use Rattle.search_trim.specs.Slice.{wanting_all}
use Rattle.search_trim.proofs.wanted.want_items.Given as goal

abbrev pub invariant-loop-item : goal.invariant-loop-item
invariant-loop-item l = wanting_all l.marks (flat_map arg_variables (drop l.item-index l.items)) ≡ wanting_all l.initial.marks (flat_map arg_variables l.items)
