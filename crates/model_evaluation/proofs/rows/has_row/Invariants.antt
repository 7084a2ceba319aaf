use Rattle.std.proofs.Common.{◌≡◌, length}
use Rattle.std.specs.List.{list_any}
use Rattle.model_evaluation.specs.Evaluation.{item_values}
use Rattle.qc_model.specs.Holds.{rows}
use Rattle.qc_model.specs.Lists.{same_values}
use Rattle.model_evaluation.proofs.rows.has_row.Given as goal

abbrev pub invariant-loop-rest : goal.invariant-loop-rest
invariant-loop-rest l =
    list_any (same_values (item_values l.values l.items)) (rows l.width l.rest)
    ≡ list_any (same_values (item_values l.values l.items)) (rows l.width l.numbers)

abbrev pub decreases-loop-rest : goal.decreases-loop-rest
decreases-loop-rest l = length l.rest
