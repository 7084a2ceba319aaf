use Rattle.std.proofs.Common.{◌≡◌, not, drop}
use Rattle.model_evaluation.specs.Evaluation.{item_values}
use Rattle.qc_model.specs.Holds.{same_truth, odd_ones}
use Rattle.model_evaluation.proofs.truths.odd_count.Given as goal

abbrev pub invariant-loop-item : goal.invariant-loop-item
invariant-loop-item l = not (same_truth l.odd (odd_ones (item_values l.values (drop l.item-index l.items)))) ≡ odd_ones (item_values l.values l.items)
