use Rattle.std.proofs.Common.{◌≡◌, length, map}
use Rattle.std.specs.List.{list_any}
use Rattle.qc_model.specs.Holds.{rows}
use Rattle.qc_model.specs.Left.{row_fits}
use Rattle.qc_model.specs.Refuted.{left_to}
use Rattle.qc_refuter.specs.Met.{seen}
use Rattle.qc_refuter.proofs.elements.has_row.Given as goal

abbrev pub invariant-loop-rest : goal.invariant-loop-rest
invariant-loop-rest l =
    list_any (row_fits (map (left_to (seen l.view)) l.items)) (rows l.width l.rest)
    ≡ list_any (row_fits (map (left_to (seen l.view)) l.items)) (rows l.width l.numbers)

abbrev pub decreases-loop-rest : goal.decreases-loop-rest
decreases-loop-rest l = length l.rest
