use Rattle.std.proofs.Common.{◌≡◌, ◌≤◌, take, length}
use Rattle.qc_model.specs.Domains.{box_values}
use Rattle.search_box.proofs.reading.read_values.Given as goal

abbrev pub invariant-loop-k : goal.invariant-loop-k
invariant-loop-k l = record {
  after : l.fn.from ≤ l.k;
  read : take l.fn.from l.fn.values ≡ box_values (take l.fn.from l.fn.store.box) → take l.k l.values ≡ box_values (take l.k l.fn.store.box);
  kept : take l.fn.from l.values ≡ take l.fn.from l.fn.values;
  each : length l.values ≡ length l.fn.values;
}
