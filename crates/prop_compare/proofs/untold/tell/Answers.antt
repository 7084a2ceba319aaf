use Rattle.std.proofs.Common.{◌∙◌, sym, ap, subst}
use Rattle.qc_model.specs.declared.problem.Arg.{Arg}
use Rattle.qc_model.specs.Domains.{values_left}
use Rattle.model_arguments.specs.Written.{last_arg}
use Rattle.prop_compare.specs.Untold.{RefutesNone}
use Rattle.prop_compare.proofs.Decided.{both_truths}
use Rattle.prop_compare.proofs.Lasts.{IsTruthLast, truth_last}
use Rattle.prop_compare.proofs.untold.tell.Goals as goal

pub loose-requires : goal.loose-requires
loose-requires c =
    let box = c.args.store.now.box in
    let last = c.last_one-r.ensures ∙ ap last_arg c.arguments.ensures in
    (subst (IsTruthLast box) (sym last) (truth_last c.args.asked.problem.now c.args.asked.rule.now box c.known.ensures.domains c.requires.fits c.requires.truth)).met

pub tell_untold-requires-clause-both : goal.tell_untold-requires-clause-both
tell_untold-requires-clause-both c =
    let box = c.args.store.now.box in
    let last = sym (c.last_one-r.ensures ∙ ap last_arg c.arguments.ensures) ∙ c.in-Some.ensures.variable in
    let t = subst (IsTruthLast box) last (truth_last c.args.asked.problem.now c.args.asked.rule.now box c.known.ensures.domains c.requires.fits c.requires.truth) in
    both_truths (values_left box c.in-Some.x.0) t.met t.truth c.in-Some.ensures.some

pub tell_untold-requires-clause-none : goal.tell_untold-requires-clause-none
tell_untold-requires-clause-none c =
    let box = c.args.store.now.box in
    let last = sym (c.last_one-r.ensures ∙ ap last_arg c.arguments.ensures) ∙ c.in-Some.ensures.variable in
    let P : Arg → Type 0 = λ z. RefutesNone c.args.asked.rule.now box z in
    subst P last c.requires.none
