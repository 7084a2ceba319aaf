use Rattle.std.proofs.Common.{◌+◌, take}
use Rattle.std.specs.List.{list_any}
use Rattle.likeness.proofs.Adding.{any_more}
use Rattle.dense_alike.specs.Marked.{has_from}
use Rattle.dense_alike.proofs.Marking.{adds_both}
use Rattle.dense_alike.proofs.marks.mark_constraints.Goals as goal

pub loop-k-preserved : goal.loop-k-preserved
loop-k-preserved c =
    let g = c.args.problem.now in
    let k = c.loop-k.k in
    let r = c.constraint.result.now in
    adds_both (λ i y. list_any (has_from i y) (take k g.constraints)) (λ i y. has_from i y r) (λ i y. list_any (has_from i y) (take (k + 1) g.constraints))
    c.args.stops.now c.loop-k.stops c.mark_constraint.new.stops c.loop-k.invariant c.in_ok-mark_constraint.ensures
    (λ i y. any_more (has_from i y) g.constraints k r c.constraint.ensures)
