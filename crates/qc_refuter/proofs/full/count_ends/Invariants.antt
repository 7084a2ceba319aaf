use Rattle.std.proofs.Common.{◌≡◌, ℕ, ◌<◌, length, map, take, get_or}
use Rattle.std.specs.Prelude.{count_by}
use Rattle.qc_model.specs.Domains.{least_value}
use Rattle.qc_model.specs.Refuted.{left_to}
use Rattle.qc_refuter.specs.Met.{seen}
use Rattle.qc_refuter.specs.Full.{ends_past}
use Rattle.qc_refuter.proofs.full.count_ends.Given as goal

abbrev pub invariant-loop-item : goal.invariant-loop-item
invariant-loop-item l =
    (k : ℕ) → k < length l.counts → get_or l.counts k 0 ≡ count_by (ends_past (least_value (left_to (seen l.view) l.fn.first)) k) (map (left_to (seen l.view)) (take l.item-index l.items))
