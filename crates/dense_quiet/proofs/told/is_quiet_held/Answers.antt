use Rattle.std.proofs.Common.{inl, inr, refl, sym, ap, subst}
use Rattle.qc_model.specs.Meaning.{at_most, below}
use Rattle.qc_model.specs.RowMeaning.{plain_meaning}
use Rattle.model_arguments.specs.Written.{arg_at}
use Rattle.dense_quiet.specs.Taking.{takes_of}
use Rattle.dense_quiet.specs.Told.{SparesHeld}
use Rattle.dense_quiet.proofs.ToldLaws.{equal_held, order_held}
use Rattle.dense_quiet.proofs.told.is_quiet_held.Goals as goal

pub returns-in-Equal : goal.returns-in-Equal
returns-in-Equal c = λ h.
    let args = c.args.args.now in
    let ok = takes_of c.args.taking c.args.problem.now c.args.rule.now in
    subst (λ m. SparesHeld m ok (arg_at args 0) (arg_at args 1) (arg_at args 2) c.args.store.now.box) (sym (ap plain_meaning c.in-Equal.is))
    (equal_held ok (arg_at args 0) (arg_at args 1) (arg_at args 2) c.args.store.now.box (c.is_quiet_equality.ensures h ok))

pub returns-in-AtMost : goal.returns-in-AtMost
returns-in-AtMost c = λ h.
    let args = c.args.args.now in
    let ok = takes_of c.args.taking c.args.problem.now c.args.rule.now in
    subst (λ m. SparesHeld m ok (arg_at args 0) (arg_at args 1) (arg_at args 2) c.args.store.now.box) (sym (ap plain_meaning c.in-AtMost.is))
    (order_held at_most (inr (inl refl)) ok (arg_at args 0) (arg_at args 1) (arg_at args 2) c.args.store.now.box (c.is_quiet_by_ends.ensures h))

pub returns-in-Below : goal.returns-in-Below
returns-in-Below c = λ h.
    let args = c.args.args.now in
    let ok = takes_of c.args.taking c.args.problem.now c.args.rule.now in
    subst (λ m. SparesHeld m ok (arg_at args 0) (arg_at args 1) (arg_at args 2) c.args.store.now.box) (sym (ap plain_meaning c.in-Below.is))
    (order_held below (inr (inr refl)) ok (arg_at args 0) (arg_at args 1) (arg_at args 2) c.args.store.now.box (c.is_quiet_by_ends-in-Below.ensures h))
