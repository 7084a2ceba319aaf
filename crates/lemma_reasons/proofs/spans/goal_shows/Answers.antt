use Rattle.std.proofs.Common.{◌≡◌, ◌∙◌, ◌&&◌, true, length, suc, sym, ap}
use Rattle.qc_model.specs.declared.problem.Kind.TheVariants.{Forall}
use Rattle.lemma_list.specs.Places.{is_kind}
use Rattle.lemma_list.specs.Reasons.{goes_on}
use Rattle.lemma_reasons.specs.Within.{kept_within}
use Rattle.lemma_reasons.proofs.Rows.{goal_rules, both_true}
use Rattle.lemma_reasons.proofs.spans.goal_shows.Goals as goal

pub returns : goal.returns
returns c =
    let g = c.args.aim.now.problem.now in
    let m = c.args.aim.now.lemma.now in
    let box = c.args.store.now.box in
    let n = length g.scopes in
    let at = c.scopes-goal.ensures in
    let side : is_kind m.loser Forall ≡ true = ap (λ k. is_kind k Forall) (sym c.loser.ensures) ∙ (sym c.is_kind.ensures ∙ c.if-not-is_kind.false) in
    let on : goes_on g m c.args.passed n box ≡ true = sym (ap (λ i. goes_on g m c.args.passed i box) at) ∙ (sym c.goes_on.ensures ∙ c.if-not-goes_on.false) in
    c.scope_kept.ensures
    ∙ (ap (λ i. kept_within g m i (suc i) box) at
    ∙ (goal_rules g m box n ∙ both_true (is_kind m.loser Forall && goes_on g m c.args.passed n box) _ (sym (both_true (is_kind m.loser Forall) (goes_on g m c.args.passed n box) side) ∙ on)))
