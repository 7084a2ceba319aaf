use Rattle.std.proofs.Common.{take}
use Rattle.std.specs.List.{list_any}
use Rattle.proof_alike.specs.Alike.{constrains}
use Rattle.likeness.specs.Marks.{AddsMarks}
use Rattle.likeness.proofs.sources.mark_constraints.Given as goal

abbrev pub invariant-loop-k : goal.invariant-loop-k
invariant-loop-k l = AddsMarks (λ i y. list_any (constrains i y) (take l.k l.fn.problem.constraints)) l.fn.upto l.upto
