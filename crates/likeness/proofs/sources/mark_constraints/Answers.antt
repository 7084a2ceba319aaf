use Rattle.std.proofs.Common.{◌+◌, take}
use Rattle.std.specs.List.{list_any}
use Rattle.proof_alike.specs.Alike.{constrains}
use Rattle.likeness.proofs.Adding.{adds_both, any_more}
use Rattle.likeness.proofs.sources.mark_constraints.Goals as goal

pub loop-k-preserved : goal.loop-k-preserved
loop-k-preserved c =
    let g = c.args.problem.now in
    let k = c.loop-k.k in
    let r = c.constraint.result.now in
    adds_both (λ i y. list_any (constrains i y) (take k g.constraints)) (λ i y. constrains i y r) (λ i y. list_any (constrains i y) (take (k + 1) g.constraints))
    c.args.upto.now c.loop-k.upto c.mark_constraint.new.upto c.loop-k.invariant c.in_ok-mark_constraint.ensures
    (λ i y. any_more (constrains i y) g.constraints k r c.constraint.ensures)
