use Rattle.std.proofs.Common.{◌≡◌, map, drop}
use Rattle.std.specs.List.{list_any}
use Rattle.qc_model.specs.Left.{is_only}
use Rattle.qc_model.specs.Refuted.{left_to}
use Rattle.prop_entailed.proofs.truths.some_only.Given as goal

abbrev pub invariant-loop-item : goal.invariant-loop-item
invariant-loop-item l = list_any (is_only l.number) (map (left_to l.store.box) (drop l.item-index l.items)) ≡ list_any (is_only l.number) (map (left_to l.store.box) l.items)
