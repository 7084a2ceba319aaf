use Rattle.std.proofs.Common.{◌≡◌, take, true}
use Rattle.std.specs.List.{list_all}
use Rattle.prop_base.specs.Closed.{keeps_argument}
use Rattle.prop_base.proofs.ends.find_cut.Given as goal

abbrev pub invariant-loop-argument : goal.invariant-loop-argument
invariant-loop-argument g l = list_all (keeps_argument l.rule l.store.box) (take l.argument-index l.argument-items) ≡ true
