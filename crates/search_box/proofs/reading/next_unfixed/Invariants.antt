use Rattle.std.proofs.Common.{◌≡◌, ◌≤◌, true, take, drop}
use Rattle.std.specs.List.{list_all}
use Rattle.qc_model.specs.Domains.{is_single}
use Rattle.search_box.proofs.reading.next_unfixed.Given as goal

abbrev pub invariant-loop-at : goal.invariant-loop-at
invariant-loop-at l = record {
  after : l.fn.x ≤ l.at;
  fixed : list_all is_single (drop l.fn.x (take l.at l.fn.store.box)) ≡ true;
}
