use Rattle.std.proofs.Common.{◌≡◌, drop}
use Rattle.text_resolve.specs.Numbers.{first_empty}
use Rattle.text_resolve.proofs.empty.first_empty.Given as goal

abbrev pub invariant-loop-item : goal.invariant-loop-item
invariant-loop-item l = first_empty (drop l.item-index l.items) ≡ first_empty l.items
