use Rattle.std.proofs.Common.{◌≡◌, ◌≤◌, map, take, true}
use Rattle.std.specs.Prelude.{count_by}
use Rattle.qc_model.specs.Refuted.{left_to}
use Rattle.qc_refuter.specs.Full.{lies_in}
use Rattle.qc_refuter.specs.Met.{seen}
use Rattle.qc_refuter.proofs.differing.two_have_first.Given as goal

-- an item that was met is counted
abbrev pub invariant-loop-item : goal.invariant-loop-item
invariant-loop-item l =
    l.met ≡ true → 1 ≤ count_by (lies_in l.view.lo 1) (map (left_to (seen l.view)) (take l.item-index l.items))
