use Rattle.std.proofs.Common.{◌≡◌, ◌-◌, take, drop}
use Rattle.dense_tree.specs.Tuples.{some_fails}
use Rattle.dense_box.proofs.constraints.span_refuted.Given as goal

abbrev pub invariant-loop-k : goal.invariant-loop-k
invariant-loop-k l =
    some_fails (take (l.fn.span.end - l.k) (drop l.k l.problem.constraints)) l.store.box
    ≡ some_fails (take (l.fn.span.end - l.fn.span.first) (drop l.fn.span.first l.problem.constraints)) l.store.box
