use Rattle.std.proofs.Common.{take}
use Rattle.std.specs.List.{list_any}
use Rattle.proof_alike.specs.Alike.{mentions}
use Rattle.likeness.specs.Marks.{AddsMarks}
use Rattle.likeness.proofs.sources.mark_aggregates.Given as goal

abbrev pub invariant-loop-aggregate : goal.invariant-loop-aggregate
invariant-loop-aggregate l = AddsMarks (λ i y. list_any (λ q. mentions l.fn.problem y q.target) (take l.aggregate-index l.fn.problem.aggregates)) l.fn.upto l.upto
