use Rattle.std.proofs.Common.{◌≡◌, length}
use Rattle.model_evaluation.specs.Evaluation.{item_values}
use Rattle.qc_model.specs.Holds.{all_differ}
use Rattle.model_evaluation.proofs.differing.pairs_differ.Given as goal

abbrev pub invariant-loop-item : goal.invariant-loop-item
invariant-loop-item l = all_differ (item_values l.values l.rest) ≡ all_differ (item_values l.values l.items)

abbrev pub decreases-loop-item : goal.decreases-loop-item
decreases-loop-item l = length l.rest
