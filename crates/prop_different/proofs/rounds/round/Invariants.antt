use Rattle.std.proofs.Common.{◌≡◌, ℕ, ◌<◌, [], length, map, get_or, true, false}
use Rattle.qc_model.specs.Domains.{least_value}
use Rattle.qc_model.specs.Refuted.{left_to}
use Rattle.prop_base.specs.Filtering.{Fits, Prunes}
use Rattle.prop_different.specs.Quiet.{IsQuiet}
use Rattle.prop_different.proofs.rounds.round.Given as goal

abbrev pub invariant-loop-k : goal.invariant-loop-k
invariant-loop-k l = record {
  pruning : Prunes l.asked l.initial.store l.store l.initial.steps l.steps;
  fits : Fits l.asked l.store;
  kept : l.changed ≡ false → l.store.box ≡ l.initial.store.box;
  same : l.changed ≡ false → l.steps ≡ l.initial.steps;
  grown : l.changed ≡ true → length l.initial.steps < length l.steps;
  quiet : l.changed ≡ false → (j : ℕ) → j < l.k → IsQuiet (map (left_to l.initial.store.box) l.items) (least_value (get_or (map (left_to l.initial.store.box) l.items) j []));
}
