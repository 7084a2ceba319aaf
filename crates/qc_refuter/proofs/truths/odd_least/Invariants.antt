use Rattle.std.proofs.Common.{◌≡◌, not, map, drop}
use Rattle.qc_model.specs.Domains.{least_value}
use Rattle.qc_model.specs.Holds.{same_truth, odd_ones}
use Rattle.qc_model.specs.Refuted.{left_to}
use Rattle.qc_refuter.specs.Met.{seen}
use Rattle.qc_refuter.proofs.truths.odd_least.Given as goal

abbrev pub invariant-loop-item : goal.invariant-loop-item
invariant-loop-item l = not (same_truth l.odd (odd_ones (map least_value (map (left_to (seen l.view)) (drop l.item-index l.items))))) ≡ odd_ones (map least_value (map (left_to (seen l.view)) l.items))
