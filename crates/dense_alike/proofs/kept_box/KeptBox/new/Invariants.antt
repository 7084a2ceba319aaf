use Rattle.std.proofs.Common.{◌≡◌, take, length}
use Rattle.qc_model.specs.Domains.{box_values}
use Rattle.dense_alike.specs.Ranges.{domains, Rises}
use Rattle.dense_alike.proofs.kept_box.KeptBox.new.Given as goal

abbrev pub invariant-loop-x : goal.invariant-loop-x
invariant-loop-x l = record {
  rises : Rises 0 l.ends.items (length l.ranges.items);
  boxes : domains l.ranges.items 0 l.ends.items ≡ take l.x l.store.box;
  least : l.least.items ≡ box_values (take l.x l.store.box);
}
