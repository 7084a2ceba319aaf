use Rattle.std.proofs.Common.{◌∙◌, inr, sym, ap, subst}
use Rattle.qc_model.specs.Domains.{is_single}
use Rattle.qc_model.specs.Refuted.{left_to}
use Rattle.model_arguments.specs.Asked.{IsAsked}
use Rattle.model_arguments.specs.Written.{last_arg}
use Rattle.prop_compare.proofs.Lasts.{IsTruthLast, truth_last}
use Rattle.prop_compare.proofs.Settled.{joined_filtered}
use Rattle.prop_linear.proofs.Told.{told_truth}
use Rattle.prop_base.proofs.Prunings.{prunes_more, fits_after}
use Rattle.prop_linear.proofs.filtering.filter_told_sum.Goals as goal

pub what_is_told-requires-clause-open : goal.what_is_told-requires-clause-open
what_is_told-requires-clause-open c =
    let g = c.args.asked.problem.now in
    let r = c.args.asked.rule.now in
    let box = c.tell_sum.new.store.box in
    let asked : IsAsked g r box = fits_after c.args.asked c.requires.fits c.tell_sum.ensures.pruning c.in_ok-changed.ensures.full in
    let last = c.last_one.ensures ∙ ap last_arg c.arguments.ensures in
    (subst (IsTruthLast box) (sym last) (truth_last g r box c.known.ensures.domains asked (told_truth r c.args.relation c.requires.pred))).met

pub what_is_told-requires-clause-truths : goal.what_is_told-requires-clause-truths
what_is_told-requires-clause-truths c =
    let g = c.args.asked.problem.now in
    let r = c.args.asked.rule.now in
    let box = c.tell_sum.new.store.box in
    let asked : IsAsked g r box = fits_after c.args.asked c.requires.fits c.tell_sum.ensures.pruning c.in_ok-changed.ensures.full in
    let last = c.last_one.ensures ∙ ap last_arg c.arguments.ensures in
    (subst (IsTruthLast box) (sym last) (truth_last g r box c.known.ensures.domains asked (told_truth r c.args.relation c.requires.pred))).truth

pub returns-in-None-clause-answer : goal.returns-in-None-clause-answer
returns-in-None-clause-answer c =
    let r = c.args.asked.rule.now in
    let box = c.tell_sum.new.store.box in
    let last = c.last_one.ensures ∙ ap last_arg c.arguments.ensures in
    let o = c.in_ok-changed.ensures.open (ap (λ a. is_single (left_to box a)) (sym last) ∙ c.in-None.ensures.none) in
    (c.in_ok-changed.ensures.full, c.in_ok-changed.ensures.grown.1 o.0, o.1)

pub filter_said-requires-clause-said : goal.filter_said-requires-clause-said
filter_said-requires-clause-said c =
    let box = c.tell_sum.new.store.box in
    let last = c.last_one.ensures ∙ ap last_arg c.arguments.ensures in
    inr (c.requires.pred, ap (left_to box) (sym last) ∙ c.in-Some.ensures.some)

pub filter_said-requires-clause-fits : goal.filter_said-requires-clause-fits
filter_said-requires-clause-fits c = fits_after c.args.asked c.requires.fits c.tell_sum.ensures.pruning c.in_ok-changed.ensures.full

pub returns-in_err-later-in-Some-clause-pruning : goal.returns-in_err-later-in-Some-clause-pruning
returns-in_err-later-in-Some-clause-pruning c =
    prunes_more c.args.asked c.tell_sum.ensures.pruning c.filter_said.ensures.pruning

pub returns-in_ok-later-in-Some-clause-pruning : goal.returns-in_ok-later-in-Some-clause-pruning
returns-in_ok-later-in-Some-clause-pruning c =
    prunes_more c.args.asked c.tell_sum.ensures.pruning c.filter_said.ensures.pruning

pub returns-in_ok-later-in-Some-clause-answer : goal.returns-in_ok-later-in-Some-clause-answer
returns-in_ok-later-in-Some-clause-answer c =
    joined_filtered c.args.asked.rule.now c.filter_said.new.store.box _ _ _ c.filter_said.ensures.pruning.more c.in_ok-changed.changed c.in_ok-later-in-Some.later c.joined.result c.in_ok-changed.ensures.grown c.filter_said.ensures.pruning.appended c.in_ok-later-in-Some.ensures.answer c.joined.ensures
