use Rattle.std.proofs.Common.{◌∙◌, sym, ap, subst}
use Rattle.qc_model.specs.declared.problem.Arg.{Arg}
use Rattle.model_arguments.specs.Written.{arg_at, set_at}
use Rattle.qc_refuter.specs.Met.{is_open}
use Rattle.prop_element.specs.Members.{IsMembership}
use Rattle.prop_element.proofs.Shapes.{has_set, set_open, set_ordered, membership}
use Rattle.prop_element.proofs.members.member_cut.Goals as goal

pub set_cut-requires-clause-open : goal.set_cut-requires-clause-open
set_cut-requires-clause-open c =
    let box = c.args.store.now.box in
    let a = c.one_at-a.ensures ∙ ap (λ l. arg_at l 0) c.arguments-args.ensures in
    ap (is_open box) a ∙ set_open c.args.problem.now c.args.rule.now box c.known.ensures.domains c.requires.asked c.requires.pred

pub set_cut-requires-clause-set : goal.set_cut-requires-clause-set
set_cut-requires-clause-set c =
    let s = sym (ap (λ l. set_at l 1) c.arguments-args.ensures) ∙ c.in-Some.ensures in
    set_ordered c.args.problem.now c.args.rule.now c.args.store.now.box c.in-Some.set.now c.known.ensures.domains c.requires.asked c.requires.pred s

pub set_cut-requires-clause-member : goal.set_cut-requires-clause-member
set_cut-requires-clause-member c =
    let r = c.args.rule.now in
    let a = c.one_at-a.ensures ∙ ap (λ l. arg_at l 0) c.arguments-args.ensures in
    let s = sym (ap (λ l. set_at l 1) c.arguments-args.ensures) ∙ c.in-Some.ensures in
    let A : Arg → Type 0 = λ z. IsMembership r z c.in-Some.set.now in
    subst A (sym a) (membership c.args.problem.now.variables r c.in-Some.set.now c.requires.asked.rule c.requires.pred s)

pub returns-in-None-clause-none : goal.returns-in-None-clause-none
returns-in-None-clause-none c =
    let s = sym (ap (λ l. set_at l 1) c.arguments-args.ensures) ∙ c.in-None.ensures in
    absurd (has_set c.args.problem.now.variables c.args.rule.now c.requires.asked.rule c.requires.pred s)
