use Rattle.std.proofs.Common.{◌≡◌, take, drop, length, map, true}
use Rattle.std.specs.List.{list_all}
use Rattle.qc_model.specs.Valid.{is_number}
use Rattle.check_box.specs.Placed.{only}
use Rattle.check_box.proofs.reading.read_values.Given as goal

abbrev pub invariant-loop-k : goal.invariant-loop-k
invariant-loop-k l = record {
  read : take l.k l.fn.store.box ≡ map only (take l.k l.values);
  kept : take l.fn.from l.values ≡ take l.fn.from l.fn.values;
  later : drop l.fn.stop l.values ≡ drop l.fn.stop l.fn.values;
  each : length l.values ≡ length l.fn.values;
  numbers : list_all is_number l.values ≡ true;
}
