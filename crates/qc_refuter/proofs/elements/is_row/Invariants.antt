use Rattle.std.proofs.Common.{◌≡◌, drop, map}
use Rattle.qc_model.specs.Left.{row_fits}
use Rattle.qc_model.specs.Refuted.{left_to}
use Rattle.qc_refuter.specs.Met.{seen}
use Rattle.qc_refuter.proofs.elements.is_row.Given as goal

abbrev pub invariant-loop-k : goal.invariant-loop-k
invariant-loop-k l = row_fits (map (left_to (seen l.view)) (drop l.k l.items)) (drop l.k l.row) ≡ row_fits (map (left_to (seen l.view)) l.items) l.row
