use Rattle.std.proofs.Common.{◌≡◌, take}
use Rattle.std.specs.Prelude.{count_by}
use Rattle.dense_quiet.specs.Filling.{is_counted}
use Rattle.dense_quiet.proofs.filling.count_with.Given as goal

abbrev pub invariant-loop-item : goal.invariant-loop-item
invariant-loop-item l = l.count ≡ count_by (is_counted l.s.low l.s.high l.x.0 l.store.box) (take l.item-index l.items)
