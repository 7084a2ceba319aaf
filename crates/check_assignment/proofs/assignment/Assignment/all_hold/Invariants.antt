use Rattle.std.proofs.Common.{◌≡◌, ◌≤◌, ◌<◌, ℕ, true, slice_get, Some}
use Rattle.qc_model.specs.Content.{Rule}
use Rattle.qc_model.specs.Holds.{holds_on}
use Rattle.check_assignment.proofs.assignment.Assignment.all_hold.Given as goal

abbrev pub invariant-loop-k : goal.invariant-loop-k
invariant-loop-k l = record {
  same : l.self ≡ l.fn.self;
  hold : (i : ℕ) (c : Rule) → l.fn.span.first ≤ i → i < l.k → slice_get l.fn.self.game.constraints i ≡ Some c → holds_on c l.fn.self.items ≡ true;
}
