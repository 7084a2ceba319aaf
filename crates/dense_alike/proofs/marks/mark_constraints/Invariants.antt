use Rattle.std.proofs.Common.{take}
use Rattle.std.specs.List.{list_any}
use Rattle.dense_alike.specs.Marked.{AddsMarks, has_from}
use Rattle.dense_alike.proofs.marks.mark_constraints.Given as goal

abbrev pub invariant-loop-k : goal.invariant-loop-k
invariant-loop-k l = AddsMarks (λ i y. list_any (has_from i y) (take l.k l.fn.problem.constraints)) l.fn.stops l.stops
