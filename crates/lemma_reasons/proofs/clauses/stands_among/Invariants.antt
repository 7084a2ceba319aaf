use Rattle.std.proofs.Common.{◌≡◌, drop}
use Rattle.std.specs.List.{list_any}
use Rattle.lemma_list.specs.Reasons.{is_item}
use Rattle.lemma_reasons.proofs.clauses.stands_among.Given as goal

abbrev pub invariant-loop-item : goal.invariant-loop-item
invariant-loop-item l = list_any (is_item l.x.0) (drop l.item-index l.items) ≡ list_any (is_item l.x.0) l.items
