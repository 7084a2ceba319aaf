use Rattle.std.proofs.Common.{◌≡◌, ◌+◌, drop}
use Rattle.std.specs.Prelude.{pos}
use Rattle.qc_model.specs.Left.{some_item_in}
use Rattle.qc_model.specs.Refuted.{left_to}
use Rattle.qc_refuter.specs.Met.{seen}
use Rattle.qc_refuter.proofs.elements.some_number.Given as goal

abbrev pub invariant-loop-k : goal.invariant-loop-k
invariant-loop-k l =
    some_item_in (pos (l.k + 1)) (left_to (seen l.view) l.b) (drop l.k l.numbers) (left_to (seen l.view) l.c)
    ≡ some_item_in (pos 1) (left_to (seen l.view) l.b) l.numbers (left_to (seen l.view) l.c)
