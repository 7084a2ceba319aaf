use Rattle.std.proofs.Common.{◌∙◌, sym, ap, subst, ◌≡◌, false, true, rules}
use Rattle.qc_model.specs.Domains.{values_left, is_single}
use Rattle.model_arguments.specs.Written.{last_arg, arg_at}
use Rattle.prop_compare.proofs.Decided.{both_truths}
use Rattle.prop_compare.proofs.Lasts.{IsTruthLast, truth_last}
use Rattle.prop_linear.proofs.Told.{told_truth, told_none}
use Rattle.std.specs.Prelude.{IfOk}
use Rattle.qc_model.specs.Refuted.{left_to}
use Rattle.qc_model.specs.Closed.{keeps_ends}
use Rattle.std.proofs.lemmas.Int.{to_z-of_z}
use mir.Val.{SFits}
use mir.Syntax.{w64}
use Rattle.prop_linear.proofs.telling.tell_sum.Goals as goal

pub loose-requires : goal.loose-requires
loose-requires c =
    let r = c.args.asked.rule.now in
    let box = c.args.store.now.box in
    let last = c.last_one.ensures ∙ ap last_arg c.arguments-args.ensures in
    (subst (IsTruthLast box) (sym last) (truth_last c.args.asked.problem.now r box c.known.ensures.domains c.requires.fits (told_truth r c.args.relation c.requires.pred))).met

pub tell_by_sum-requires-clause-both : goal.tell_by_sum-requires-clause-both
tell_by_sum-requires-clause-both c =
    let r = c.args.asked.rule.now in
    let box = c.args.store.now.box in
    let last = sym (c.last_one.ensures ∙ ap last_arg c.arguments-args.ensures) ∙ c.in-Some.ensures.variable in
    let t = subst (IsTruthLast box) last (truth_last c.args.asked.problem.now r box c.known.ensures.domains c.requires.fits (told_truth r c.args.relation c.requires.pred)) in
    both_truths (values_left box c.in-Some.x.0) t.met t.truth c.in-Some.ensures.some

pub tell-requires-clause-truth : goal.tell-requires-clause-truth
tell-requires-clause-truth c = told_truth c.args.asked.rule.now c.args.relation c.requires.pred

pub tell-requires-clause-none : goal.tell-requires-clause-none
tell-requires-clause-none c = told_none c.args.asked.rule.now c.args.store.now.box c.args.relation c.requires.pred

pub tell_by_sum-requires-clause-last : goal.tell_by_sum-requires-clause-last
tell_by_sum-requires-clause-last c = sym (c.last_one.ensures ∙ ap last_arg c.arguments-args.ensures) ∙ c.in-Some.ensures.variable

pub tell_by_sum-requires-clause-number : goal.tell_by_sum-requires-clause-number
tell_by_sum-requires-clause-number c =
    let n_fits : SFits w64 c.in-Num.bound = search rules in
    simp to_z-of_z (sym (c.one_at.ensures ∙ ap (λ a. arg_at a 2) c.arguments-args.ensures) ∙ c.in-Num.is)

pub returns-clause-open : goal.returns-clause-open
returns-clause-open c =
    let r = c.args.asked.rule.now in
    let new = c.tell_by_sum.new.store.box in
    let last = sym (c.last_one.ensures ∙ ap last_arg c.arguments-args.ensures) ∙ c.in-Some.ensures.variable in
    subst (λ a. IfOk c.tell_by_sum.result (λ b. is_single (left_to new a) ≡ false → (b ≡ false) × (keeps_ends new r ≡ true))) (sym last) c.tell_by_sum.ensures.open
