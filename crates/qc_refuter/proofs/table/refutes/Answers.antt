use Rattle.std.proofs.Common.{◌≡◌, ◌∙◌, sym, ap, true, subst}
use Rattle.std.proofs.lemmas.Option.{same_Some}
use Rattle.qc_model.specs.Refuted.{refuted_by}
use Rattle.model_arguments.proofs.Boxes.{within_all}
use Rattle.qc_refuter.specs.Met.{are_met}
use Rattle.qc_refuter.proofs.Ready.{rule_met}
use Rattle.qc_refuter.proofs.table.refutes.Goals as goal

pub refutes_view-requires : goal.refutes_view-requires
refutes_view-requires c =
    let a = c.requires.asked c.constraint-rule.result.now c.constraint-rule.ensures in
    let g = c.args.problem.now in
    let box = c.args.store.now.box in
    let same = c.whole.ensures ∙ within_all g box 0 c.known.ensures.domains a.declared in
    subst (λ b. are_met b c.constraint-rule.result.now.args ≡ true) (sym same) (rule_met g box c.known.ensures.domains a.declared a.full c.constraint-rule.result.now a.rule)

pub returns : goal.returns
returns c rule e =
    let a = c.requires.asked c.constraint-rule.result.now c.constraint-rule.ensures in
    let same = c.whole.ensures ∙ within_all c.args.problem.now c.args.store.now.box 0 c.known.ensures.domains a.declared in
    c.refutes_view.ensures ∙ (ap (refuted_by c.constraint-rule.result.now) same ∙ ap (λ z. refuted_by z c.args.store.now.box) (same_Some c.constraint-rule.result.now rule (sym c.constraint-rule.ensures ∙ e)))
