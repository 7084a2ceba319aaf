use Rattle.std.proofs.Common.{◌≡◌, ◌≤◌, ◌*◌, length, take}
use Rattle.std.specs.Prelude.{sum_by}
use Rattle.check_box.proofs.remains.count_values.Given as goal

abbrev pub invariant-loop-k : goal.invariant-loop-k
invariant-loop-k l = record {
  counted : l.values ≡ sum_by length (take l.k l.fn.store.box);
  few : l.values ≤ 4294967295 * l.k;
}
