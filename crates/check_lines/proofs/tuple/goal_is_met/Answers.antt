use Rattle.std.proofs.Common.{◌-◌, ◌∙◌, ap, subst, suc, length, take, drop}
use Rattle.std.specs.List.{list_all}
use Rattle.qc_model.specs.Content.{Game}
use Rattle.qc_model.specs.Holds.{holds_on}
use Rattle.model_levels.specs.Spans.{IsSpanOf}
use Rattle.check_lines.proofs.Prefixes.{span_allows}
use Rattle.check_lines.proofs.tuple.goal_is_met.Goals as goal

pub returns-clause-holds : goal.returns-clause-holds
returns-clause-holds c =
    let g = c.args.levels.now.problem.now in
    let n = length g.scopes in
    let vs = c.args.values.now.items in
    let p = c.constraints_between.result in
    let span : IsSpanOf g n (suc n) p.first p.end = subst (λ k. IsSpanOf g k (suc k) p.first p.end) c.scopes.ensures c.constraints_between.ensures in
    c.all_hold.ensures.holds
    ∙ (ap (λ (u : Game). list_all (λ r. holds_on r vs) (take (p.end - p.first) (drop p.first u.constraints))) c.requires.game ∙ span_allows g c.known.ensures n vs c.requires.each p.first p.end span)
