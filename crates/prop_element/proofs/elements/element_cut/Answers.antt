use Rattle.std.proofs.Common.{◌∙◌, sym, ap, subst, List, ℤ}
use Rattle.qc_model.specs.declared.problem.Arg.{Arg}
use Rattle.model_arguments.specs.Written.{arg_at, ints_at}
use Rattle.qc_refuter.specs.Met.{is_open}
use Rattle.prop_element.specs.Elements.{IsElement}
use Rattle.prop_element.proofs.Shapes.{element_open, element_is}
use Rattle.prop_element.proofs.elements.element_cut.Goals as goal

pub placed_cut-requires-clause-first : goal.placed_cut-requires-clause-first
placed_cut-requires-clause-first c =
    let box = c.args.store.now.box in
    let a = c.one_at-a.ensures ∙ ap (λ l. arg_at l 0) c.arguments-args.ensures in
    ap (is_open box) a ∙ (element_open c.args.problem.now c.args.rule.now box c.known.ensures.domains c.requires.asked c.requires.element.pred).0

pub placed_cut-requires-clause-last : goal.placed_cut-requires-clause-last
placed_cut-requires-clause-last c =
    let box = c.args.store.now.box in
    let r = c.one_at-r.ensures ∙ ap (λ l. arg_at l 2) c.arguments-args.ensures in
    ap (is_open box) r ∙ (element_open c.args.problem.now c.args.rule.now box c.known.ensures.domains c.requires.asked c.requires.element.pred).1

pub placed_cut-requires-clause-element : goal.placed_cut-requires-clause-element
placed_cut-requires-clause-element c =
    let u = c.args.rule.now in
    let a = c.one_at-a.ensures ∙ ap (λ l. arg_at l 0) c.arguments-args.ensures in
    let ns = c.numbers_at-numbers.ensures ∙ ap (λ l. ints_at l 1) c.arguments-args.ensures in
    let r = c.one_at-r.ensures ∙ ap (λ l. arg_at l 2) c.arguments-args.ensures in
    let A : Arg → Type 0 = λ z. IsElement u z c.numbers_at-numbers.result.now c.one_at-r.result in
    let N : List ℤ → Type 0 = λ z. IsElement u (arg_at u.args 0) z c.one_at-r.result in
    let R : Arg → Type 0 = λ z. IsElement u (arg_at u.args 0) (ints_at u.args 1) z in
    subst A (sym a) (subst N (sym ns) (subst R (sym r) (element_is c.args.problem.now.variables u c.requires.asked.rule c.requires.element.pred c.requires.element.apart)))
