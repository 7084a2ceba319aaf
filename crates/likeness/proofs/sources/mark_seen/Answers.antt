use Rattle.std.proofs.Common.{refl}
use Rattle.std.specs.List.{list_any}
use Rattle.proof_alike.specs.Alike.{constrains, condition_mentions, mentions, is_named, is_seen}
use Rattle.likeness.proofs.Adding.{adds_both}
use Rattle.likeness.proofs.sources.mark_seen.Goals as goal

pub returns : goal.returns
returns c =
    let g = c.args.problem.now in
    adds_both (λ i y. list_any (constrains i y) g.constraints) (λ i y. is_named g y) (λ i y. is_seen g i y)
    c.args.upto.now c.mark_constraints.new.upto c.mark_aggregates.new.upto c.in_ok-mark_constraints.ensures
    (adds_both (λ i y. list_any (λ s. condition_mentions g y s.condition) g.scopes) (λ i y. list_any (λ q. mentions g y q.target) g.aggregates) (λ i y. is_named g y)
    c.mark_constraints.new.upto c.mark_conditions.new.upto c.mark_aggregates.new.upto c.mark_conditions.ensures c.mark_aggregates.ensures (λ i y. refl))
    (λ i y. refl)
