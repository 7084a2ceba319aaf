use Rattle.std.proofs.Common.{◌≡◌, drop}
use Rattle.text_resolve.specs.Fits.{first_place, strange_predicate}
use Rattle.text_resolve.proofs.strange.first_strange.Given as goal

abbrev pub invariant-loop-item : goal.invariant-loop-item
invariant-loop-item l = first_place (strange_predicate l.text) (drop l.item-index l.items) ≡ first_place (strange_predicate l.text) l.items
