use Rattle.std.proofs.Common.{◌≡◌, ◌++◌, drop}
use Rattle.model_copies.proofs.copies.copy_args.Given as goal

abbrev pub invariant-loop-item : goal.invariant-loop-item
invariant-loop-item l = l.copy ++ drop l.item-index l.items ≡ l.items
