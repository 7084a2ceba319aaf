use Rattle.std.proofs.Common.{◌+◌, take}
use Rattle.std.specs.List.{list_any}
use Rattle.proof_alike.specs.Alike.{condition_mentions}
use Rattle.likeness.proofs.Adding.{adds_both, any_more}
use Rattle.likeness.proofs.sources.mark_conditions.Goals as goal

pub loop-k-preserved : goal.loop-k-preserved
loop-k-preserved c =
    let g = c.args.problem.now in
    let k = c.loop-k.k in
    let s = c.scope.result.now in
    adds_both (λ i y. list_any (λ s. condition_mentions g y s.condition) (take k g.scopes)) (λ i y. condition_mentions g y s.condition) (λ i y. list_any (λ s. condition_mentions g y s.condition) (take (k + 1) g.scopes))
    c.args.upto.now c.loop-k.upto c.mark_condition.new.upto c.loop-k.invariant c.mark_condition.ensures
    (λ i y. any_more (λ s. condition_mentions g y s.condition) g.scopes k s c.scope.ensures)
