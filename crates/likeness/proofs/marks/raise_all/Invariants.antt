use Rattle.std.proofs.Common.{◌&&◌, take}
use Rattle.std.specs.Prelude.{nat_le}
use Rattle.model_arguments.specs.Written.{variable_numbers}
use Rattle.proof_alike.specs.Alike.{is_among}
use Rattle.likeness.specs.Marks.{AddsMarks}
use Rattle.likeness.proofs.marks.raise_all.Given as goal

abbrev pub invariant-loop-x : goal.invariant-loop-x
invariant-loop-x l = AddsMarks (λ i y. nat_le i l.fn.scope && is_among (variable_numbers (take l.x-index l.xs)) y) l.fn.upto l.upto
