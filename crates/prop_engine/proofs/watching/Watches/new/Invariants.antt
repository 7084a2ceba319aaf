use Rattle.std.proofs.Common.{◌≡◌, ℕ, length, []}
use Rattle.prop_engine.specs.Watching.{watchers}
use Rattle.prop_engine.proofs.watching.Watches.new.Given as goal

abbrev pub invariant-loop : goal.invariant-loop
invariant-loop l = record {
  count : length l.lists.items ≡ l.counter;
  empty : (x : ℕ) → watchers l.lists.items x ≡ [];
}
