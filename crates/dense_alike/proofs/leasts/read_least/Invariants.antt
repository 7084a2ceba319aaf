use Rattle.std.proofs.Common.{◌≡◌, take, length}
use Rattle.qc_model.specs.Domains.{box_values}
use Rattle.dense_alike.proofs.leasts.read_least.Given as goal

abbrev pub invariant-loop-k : goal.invariant-loop-k
invariant-loop-k l = record {
  count : length l.values ≡ length l.fn.values;
  read : take l.k l.values ≡ box_values (take l.k l.store.box);
}
