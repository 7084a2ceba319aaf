use Rattle.std.proofs.Common.{◌≡◌, map, drop}
use Rattle.std.specs.List.{list_all}
use Rattle.qc_model.specs.Domains.{is_single}
use Rattle.qc_model.specs.Refuted.{left_to}
use Rattle.lemma_reasons.proofs.kept.all_fixed.Given as goal

abbrev pub invariant-loop-item : goal.invariant-loop-item
invariant-loop-item l = list_all is_single (map (left_to l.store.box) (drop l.item-index l.items)) ≡ list_all is_single (map (left_to l.store.box) l.items)
