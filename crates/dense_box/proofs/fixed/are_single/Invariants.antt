use Rattle.std.proofs.Common.{◌≡◌, take, drop}
use Rattle.std.specs.List.{list_all}
use Rattle.qc_model.specs.Domains.{is_single}
use Rattle.dense_box.proofs.fixed.are_single.Given as goal

abbrev pub invariant-loop-k : goal.invariant-loop-k
invariant-loop-k l = list_all is_single (drop l.k (take l.stop l.store.box)) ≡ list_all is_single (drop l.from (take l.stop l.store.box))
