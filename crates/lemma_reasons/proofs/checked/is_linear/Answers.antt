use Rattle.std.proofs.Common.{◌∙◌, sym, ap}
use Rattle.std.specs.Prelude.{is_some}
use Rattle.qc_model.specs.declared.problem.Pred.{Pred}
use Rattle.qc_model.specs.Valid.{is_constraint}
use Rattle.lemma_list.specs.Sums.{linear_at}
use Rattle.lemma_reasons.specs.Steps.{is_sum}
use Rattle.lemma_reasons.proofs.Asking.{all_at}
use Rattle.lemma_reasons.proofs.Showing.{sum_is_linear}
use Rattle.lemma_reasons.proofs.checked.is_linear.Goals as goal

pub returns : goal.returns
returns c =
    let g = c.args.problem.now in
    let rule = c.constraint.result.now in
    let valid = all_at (is_constraint g.variables) g.constraints c.args.c.0 rule c.known.ensures.constraints c.constraint.ensures in
    c.is_sum.ensures ∙ (ap (λ (p : Pred). is_sum p) c.pred_of.ensures ∙ (sum_is_linear g.variables rule valid ∙ ap (λ o. is_some (linear_at o)) (sym c.constraint.ensures)))
