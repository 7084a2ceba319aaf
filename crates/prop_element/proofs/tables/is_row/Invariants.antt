use Rattle.std.proofs.Common.{◌≡◌, drop, map}
use Rattle.qc_model.specs.Left.{row_fits}
use Rattle.qc_model.specs.Refuted.{left_to}
use Rattle.prop_element.proofs.tables.is_row.Given as goal

abbrev pub invariant-loop-k : goal.invariant-loop-k
invariant-loop-k l = row_fits (map (left_to l.store.box) (drop l.k l.items)) (drop l.k l.row) ≡ row_fits (map (left_to l.store.box) l.items) l.row
