use Rattle.std.proofs.Common.{◌≡◌, take, true}
use Rattle.std.specs.List.{list_all}
use Rattle.prop_base.specs.Closed.{keeps_arg}
use Rattle.prop_element.proofs.hulls.any_cut.Given as goal

abbrev pub invariant-loop-item : goal.invariant-loop-item
invariant-loop-item l = list_all (keeps_arg l.rule l.store.box) (take l.item-index l.items) ≡ true
