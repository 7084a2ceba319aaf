use Rattle.std.proofs.Common.{◌≡◌, ◌≤◌, ◌<◌, ℕ}
use Rattle.qc_model.specs.Domains.{values_left, declared_box}
use Rattle.search_box.proofs.reading.are_whole.Given as goal

abbrev pub invariant-loop-at : goal.invariant-loop-at
invariant-loop-at l = record {
  after : l.fn.from ≤ l.at;
  whole : (x : ℕ) → l.fn.from ≤ x → x < l.at → values_left l.fn.store.box x ≡ values_left (declared_box l.fn.problem) x;
}
