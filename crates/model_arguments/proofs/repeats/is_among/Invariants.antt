use Rattle.std.proofs.Common.{◌≡◌, drop}
use Rattle.std.specs.List.{list_any}
use Rattle.model_arguments.specs.Repeats.{same_variable}
use Rattle.model_arguments.proofs.repeats.is_among.Given as goal

abbrev pub invariant-loop-item : goal.invariant-loop-item
invariant-loop-item l = list_any (same_variable l.a) (drop l.item-index l.items) ≡ list_any (same_variable l.a) l.items
