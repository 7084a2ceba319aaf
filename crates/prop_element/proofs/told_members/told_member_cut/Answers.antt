use Rattle.std.proofs.Common.{◌∙◌, sym, ap, subst}
use Rattle.qc_model.specs.declared.problem.Arg.{Arg}
use Rattle.model_arguments.specs.Written.{arg_at, set_at, last_arg}
use Rattle.qc_refuter.specs.Met.{is_open}
use Rattle.prop_compare.specs.Untold.{RefutesNone}
use Rattle.prop_compare.proofs.Lasts.{IsTruthLast, truth_last}
use Rattle.prop_element.specs.Members.{IsToldMember}
use Rattle.prop_element.proofs.Shapes.{has_told_set, told_set_open, told_set_ordered, told_member}
use Rattle.prop_element.proofs.Told.{told_none, told_truth}
use Rattle.prop_element.proofs.told_members.told_member_cut.Goals as goal

pub told_set_cut-requires-clause-open : goal.told_set_cut-requires-clause-open
told_set_cut-requires-clause-open c =
    let box = c.args.store.now.box in
    let a = c.one_at-a.ensures ∙ ap (λ l. arg_at l 0) c.arguments-args.ensures in
    ap (is_open box) a ∙ told_set_open c.args.problem.now c.args.rule.now box c.known.ensures.domains c.requires.asked c.requires.pred

pub told_set_cut-requires-clause-last : goal.told_set_cut-requires-clause-last
told_set_cut-requires-clause-last c =
    let box = c.args.store.now.box in
    let r = c.last_one-r.ensures ∙ ap last_arg c.arguments-args.ensures in
    (subst (IsTruthLast box) (sym r) (truth_last c.args.problem.now c.args.rule.now box c.known.ensures.domains c.requires.asked (told_truth c.args.rule.now c.requires.pred))).met

pub told_set_cut-requires-clause-truths : goal.told_set_cut-requires-clause-truths
told_set_cut-requires-clause-truths c =
    let box = c.args.store.now.box in
    let r = c.last_one-r.ensures ∙ ap last_arg c.arguments-args.ensures in
    (subst (IsTruthLast box) (sym r) (truth_last c.args.problem.now c.args.rule.now box c.known.ensures.domains c.requires.asked (told_truth c.args.rule.now c.requires.pred))).truth

pub told_set_cut-requires-clause-set : goal.told_set_cut-requires-clause-set
told_set_cut-requires-clause-set c =
    let s = sym (ap (λ l. set_at l 1) c.arguments-args.ensures) ∙ c.in-Some.ensures in
    told_set_ordered c.args.problem.now.variables c.args.rule.now c.in-Some.set.now c.requires.asked.rule c.requires.pred s

pub told_set_cut-requires-clause-member : goal.told_set_cut-requires-clause-member
told_set_cut-requires-clause-member c =
    let u = c.args.rule.now in
    let a = c.one_at-a.ensures ∙ ap (λ l. arg_at l 0) c.arguments-args.ensures in
    let r = c.last_one-r.ensures ∙ ap last_arg c.arguments-args.ensures in
    let s = sym (ap (λ l. set_at l 1) c.arguments-args.ensures) ∙ c.in-Some.ensures in
    let A : Arg → Type 0 = λ z. IsToldMember u z c.in-Some.set.now c.last_one-r.result in
    let R : Arg → Type 0 = λ z. IsToldMember u (arg_at u.args 0) c.in-Some.set.now z in
    subst A (sym a) (subst R (sym r) (told_member c.args.problem.now.variables u c.in-Some.set.now c.requires.asked.rule c.requires.pred s))

pub told_set_cut-requires-clause-none : goal.told_set_cut-requires-clause-none
told_set_cut-requires-clause-none c =
    let box = c.args.store.now.box in
    let r = c.last_one-r.ensures ∙ ap last_arg c.arguments-args.ensures in
    let P : Arg → Type 0 = λ z. RefutesNone c.args.rule.now box z in
    subst P (sym r) (told_none c.args.problem.now c.args.rule.now box c.requires.asked c.requires.pred)

pub returns-in-None-clause-none : goal.returns-in-None-clause-none
returns-in-None-clause-none c =
    let s = sym (ap (λ l. set_at l 1) c.arguments-args.ensures) ∙ c.in-None.ensures in
    absurd (has_told_set c.args.problem.now.variables c.args.rule.now c.requires.asked.rule c.requires.pred s)
