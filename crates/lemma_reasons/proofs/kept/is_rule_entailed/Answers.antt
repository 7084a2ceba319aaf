use Rattle.std.proofs.Common.{◌∙◌, sym, subst}
use Rattle.std.proofs.lemmas.Option.{same_Some, slice_get_within}
use Rattle.qc_model.specs.Content.{Rule}
use Rattle.model_arguments.specs.Asked.{IsAsked}
use Rattle.qc_refuter.proofs.Ready.{rule_met}
use Rattle.lemma_reasons.proofs.kept.is_rule_entailed.Goals as goal

pub are_settled-requires : goal.are_settled-requires
are_settled-requires c =
    let a = c.requires.asked in
    rw c.arguments.ensures (rule_met c.args.problem.now c.args.store.now.box c.known.ensures.domains a.declared a.full c.args.rule.now a.rule)

pub refutes-requires-clause-c : goal.refutes-requires-clause-c
refutes-requires-clause-c c = slice_get_within c.args.problem.now.constraints c.args.c.0 c.args.rule.now c.requires.rule

pub refutes-requires-clause-asked : goal.refutes-requires-clause-asked
refutes-requires-clause-asked c rule e =
    subst (λ (r : Rule). IsAsked c.args.problem.now r c.args.store.now.box) (same_Some c.args.rule.now rule (sym c.requires.rule ∙ e)) c.requires.asked
