use Rattle.std.proofs.Common.{◌≡◌, length, take, true}
use Rattle.std.specs.List.{list_all}
use Rattle.qc_model.specs.Domains.{box_values}
use Rattle.qc_model.specs.Valid.{is_number}
use Rattle.dense_nest.proofs.basics.write_position.Given as goal

abbrev pub invariant-loop-k : goal.invariant-loop-k
invariant-loop-k l = (take l.k l.values ≡ box_values (take l.k l.fn.store.box)) × (length l.values ≡ length l.fn.values) × (list_all is_number l.values ≡ true)
