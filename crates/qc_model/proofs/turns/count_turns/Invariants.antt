use Rattle.std.proofs.Common.{◌≡◌, ◌≤◌, ◌*◌, ◌^◌, min, length, drop}
use Rattle.qc_model.specs.Turns.{value_product}
use Rattle.qc_model.proofs.turns.count_turns.Given as goal

abbrev pub invariant-loop-x : goal.invariant-loop-x
invariant-loop-x l = record {
  within : l.turns ≤ 2 ^ 63;
  product : min (l.turns * value_product (drop l.x-index l.variables)) (2 ^ 63) ≡ min (length l.variables * value_product l.variables) (2 ^ 63);
}
