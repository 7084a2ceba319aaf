use Rattle.std.proofs.Common.{◌<◌, length, IfSome}
use Rattle.search_scout.proofs.choosing.smallest.Given as goal

abbrev pub invariant-loop-at : goal.invariant-loop-at
invariant-loop-at l = IfSome l.best (λ x. x.0 < length l.fn.store.box)
