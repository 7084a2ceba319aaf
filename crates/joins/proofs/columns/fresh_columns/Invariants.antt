use Rattle.std.proofs.Common.{◌≡◌, [], map, take}
use Rattle.qc_model.specs.Demands.{first_namings}
use Rattle.joins.specs.Columns.{fresh_column}
use Rattle.joins.proofs.columns.fresh_columns.Given as goal

abbrev pub invariant-loop-entry : goal.invariant-loop-entry
invariant-loop-entry l = l.columns.items ≡ map (fresh_column l.problem (first_namings [] l.list)) (take l.entry-index l.list)
