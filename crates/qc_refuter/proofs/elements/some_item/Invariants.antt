use Rattle.std.proofs.Common.{◌≡◌, ◌+◌, drop, map}
use Rattle.std.specs.Prelude.{pos}
use Rattle.qc_model.specs.Left.{some_item_meets}
use Rattle.qc_model.specs.Refuted.{left_to}
use Rattle.qc_refuter.specs.Met.{seen}
use Rattle.qc_refuter.proofs.elements.some_item.Given as goal

abbrev pub invariant-loop-k : goal.invariant-loop-k
invariant-loop-k l =
    some_item_meets (pos (l.k + 1)) (left_to (seen l.view) l.b) (map (left_to (seen l.view)) (drop l.k l.items)) (left_to (seen l.view) l.c)
    ≡ some_item_meets (pos 1) (left_to (seen l.view) l.b) (map (left_to (seen l.view)) l.items) (left_to (seen l.view) l.c)
