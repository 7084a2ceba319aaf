use Rattle.std.proofs.Common.{rules, ◌≡◌, ◌∙◌, sym, ap, subst, length}
use Rattle.std.specs.Prelude.{pos}
use Rattle.std.proofs.lemmas.Int.{to_z-of_z}
use mir.Val.{SFits, to_z}
use mir.Syntax.{w64}
use Rattle.qc_model.specs.Ranges.{Range}
use Rattle.qc_model.specs.RowMeaning.{plain_meaning}
use Rattle.model_arguments.specs.Written.{arg_at}
use Rattle.qc_refuter.proofs.Ready.{rule_met}
use Rattle.dense_quiet.specs.Taking.{takes_of}
use Rattle.dense_quiet.specs.Told.{SparesHeld}
use Rattle.dense_quiet.proofs.ToldLaws.{quiet_told, quiet_held}
use Rattle.dense_quiet.proofs.told.is_quiet_truth.Goals as goal

pub arg_met-truth-requires : goal.arg_met-truth-requires
arg_met-truth-requires c =
    rw c.arguments-args.ensures (rule_met c.args.problem.now c.args.store.now.box c.known.ensures.domains c.requires.asked.declared c.requires.asked.full c.args.rule.now c.requires.asked.rule)

pub is_quiet_held-requires : goal.is_quiet_held-requires
is_quiet_held-requires c =
    rw c.arguments-args.ensures (rule_met c.args.problem.now c.args.store.now.box c.known.ensures.domains c.requires.asked.declared c.requires.asked.full c.args.rule.now c.requires.asked.rule)

pub returns-then-left-eq1 : goal.returns-then-left-eq1
returns-then-left-eq1 c = λ h.
    let r = c.args.rule.now in
    let box = c.args.store.now.box in
    let truth = c.arg_met-truth.result in
    let p = c.ends_of-left.result in
    let p_fits : SFits w64 p.least = search rules in
    let q_fits : SFits w64 p.greatest = search rules in
    let low : p.least ≡ pos 1 = sym (to_z-of_z w64 p.least p_fits) ∙ ap (to_z w64) c.if-left-eq1.true in
    let high : p.greatest ≡ pos 1 = sym (to_z-of_z w64 p.greatest q_fits) ∙ ap (to_z w64) c.if-left-ne1.false in
    let three : length r.args ≡ 3 = subst (λ z. length z ≡ 3) c.arguments-args.ensures c.if-args-ne3.false in
    let takes = takes_of c.args.taking c.args.problem.now in
    quiet_held (plain_meaning c.args.meaning) takes r box truth c.requires.meaning three c.requires.apart (c.arg_met-truth.ensures.is ∙ ap (λ z. arg_at z 2) c.arguments-args.ensures)
    c.arg_met-truth.ensures.«open» (sym (ap (λ (r : Range). r.from) c.ends_of-left.ensures) ∙ low) (sym (ap (λ (r : Range). r.to) c.ends_of-left.ensures) ∙ high)
    (subst (λ args. SparesHeld (plain_meaning c.args.meaning) (takes r) (arg_at args 0) (arg_at args 1) (arg_at args 2) box) c.arguments-args.ensures (c.is_quiet_held.ensures h))

pub arg_met-requires : goal.arg_met-requires
arg_met-requires c =
    rw c.arguments-args.ensures (rule_met c.args.problem.now c.args.store.now.box c.known.ensures.domains c.requires.asked.declared c.requires.asked.full c.args.rule.now c.requires.asked.rule)

pub arg_met-requires-2 : goal.arg_met-requires-2
arg_met-requires-2 c =
    rw c.arguments-args.ensures (rule_met c.args.problem.now c.args.store.now.box c.known.ensures.domains c.requires.asked.declared c.requires.asked.full c.args.rule.now c.requires.asked.rule)

pub returns : goal.returns
returns c = λ h.
    let r = c.args.rule.now in
    let box = c.args.store.now.box in
    let truth = c.arg_met-truth.result in
    let p = c.ends_of-left.result in
    let p_fits : SFits w64 p.least = search rules in
    let q_fits : SFits w64 p.greatest = search rules in
    let low : p.least ≡ pos 0 = sym (to_z-of_z w64 p.least p_fits) ∙ ap (to_z w64) c.if-left-ne0.false in
    let high : p.greatest ≡ pos 1 = sym (to_z-of_z w64 p.greatest q_fits) ∙ ap (to_z w64) c.if-left-ne1.false in
    let three : length r.args ≡ 3 = subst (λ z. length z ≡ 3) c.arguments-args.ensures c.if-args-ne3.false in
    quiet_told (plain_meaning c.args.meaning) (takes_of c.args.taking c.args.problem.now) r box c.arg_met.result c.arg_met-2.result truth c.requires.meaning three c.requires.apart
    (c.arg_met.ensures.is ∙ ap (λ z. arg_at z 0) c.arguments-args.ensures) (c.arg_met-2.ensures.is ∙ ap (λ z. arg_at z 1) c.arguments-args.ensures) (c.arg_met-truth.ensures.is ∙ ap (λ z. arg_at z 2) c.arguments-args.ensures)
    c.arg_met-truth.ensures.«open» (sym (ap (λ (r : Range). r.from) c.ends_of-left.ensures) ∙ low) (sym (ap (λ (r : Range). r.to) c.ends_of-left.ensures) ∙ high) (c.is_undecided.ensures h)
