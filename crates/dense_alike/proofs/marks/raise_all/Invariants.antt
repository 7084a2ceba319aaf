use Rattle.std.proofs.Common.{◌&&◌, take}
use Rattle.std.specs.Prelude.{nat_lt}
use Rattle.model_arguments.specs.Written.{variable_numbers}
use Rattle.proof_alike.specs.Alike.{is_among}
use Rattle.dense_alike.specs.Marked.{AddsMarks}
use Rattle.dense_alike.proofs.marks.raise_all.Given as goal

abbrev pub invariant-loop-x : goal.invariant-loop-x
invariant-loop-x l = AddsMarks (λ i y. nat_lt i l.fn.stop && is_among (variable_numbers (take l.x-index l.xs)) y) l.fn.stops l.stops
