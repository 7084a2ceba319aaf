use Rattle.std.proofs.Common.{◌≡◌, map, drop}
use Rattle.qc_model.specs.Left.{least_range}
use Rattle.qc_model.specs.Ranges.{range_of}
use Rattle.qc_model.specs.Refuted.{left_to}
use Rattle.qc_refuter.specs.Met.{seen}
use Rattle.qc_refuter.proofs.ends.least_range.Given as goal

abbrev pub invariant-loop-item : goal.invariant-loop-item
invariant-loop-item l =
    least_range (range_of l.reach.from l.reach.to) (map (left_to (seen l.view)) (drop l.item-index l.items))
    ≡ least_range (range_of l.fn.first.from l.fn.first.to) (map (left_to (seen l.view)) l.items)
