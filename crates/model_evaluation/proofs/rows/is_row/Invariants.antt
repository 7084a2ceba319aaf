use Rattle.std.proofs.Common.{◌≡◌, drop}
use Rattle.model_evaluation.specs.Evaluation.{item_values}
use Rattle.qc_model.specs.Lists.{same_values}
use Rattle.model_evaluation.proofs.rows.is_row.Given as goal

abbrev pub invariant-loop-k : goal.invariant-loop-k
invariant-loop-k l = same_values (item_values l.values (drop l.k l.items)) (drop l.k l.row) ≡ same_values (item_values l.values l.items) l.row
