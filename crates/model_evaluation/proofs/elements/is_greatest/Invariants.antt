use Rattle.std.proofs.Common.{◌≡◌, ◌&&◌, ◌||◌, drop}
use Rattle.std.specs.Prelude.{int_le}
use Rattle.std.specs.List.{list_any, list_all}
use Rattle.std.specs.Ordering.{int_eq}
use Rattle.model_evaluation.specs.Evaluation.{item_values}
use Rattle.qc_model.specs.Holds.{is_greatest}
use Rattle.model_evaluation.proofs.elements.is_greatest.Given as goal

abbrev pub invariant-loop-item : goal.invariant-loop-item
invariant-loop-item l =
    ((l.reached || list_any (int_eq l.greatest) (item_values l.values (drop l.item-index l.items))) && list_all (λ x. int_le x l.greatest) (item_values l.values (drop l.item-index l.items)))
    ≡ is_greatest l.greatest (item_values l.values l.items)
