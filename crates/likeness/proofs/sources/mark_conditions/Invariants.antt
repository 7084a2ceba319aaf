use Rattle.std.proofs.Common.{take}
use Rattle.std.specs.List.{list_any}
use Rattle.proof_alike.specs.Alike.{condition_mentions}
use Rattle.likeness.specs.Marks.{AddsMarks}
use Rattle.likeness.proofs.sources.mark_conditions.Given as goal

abbrev pub invariant-loop-k : goal.invariant-loop-k
invariant-loop-k l = AddsMarks (λ i y. list_any (λ s. condition_mentions l.fn.problem y s.condition) (take l.k l.fn.problem.scopes)) l.fn.upto l.upto
