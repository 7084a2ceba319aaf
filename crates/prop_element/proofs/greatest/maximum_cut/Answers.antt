use Rattle.std.proofs.Common.{◌∙◌, sym, ap, subst, List}
use Rattle.std.specs.List.{list_all}
use Rattle.qc_model.specs.declared.problem.Arg.{Arg}
use Rattle.model_arguments.specs.Written.{arg_at, args_at}
use Rattle.qc_refuter.specs.Met.{is_open}
use Rattle.prop_element.specs.Extremes.{IsGreatest}
use Rattle.prop_element.proofs.Shapes.{greatest_open, greatest_is}
use Rattle.prop_element.proofs.greatest.maximum_cut.Goals as goal

pub greatest_cut-requires-clause-first : goal.greatest_cut-requires-clause-first
greatest_cut-requires-clause-first c =
    let box = c.args.store.now.box in
    let a = c.one_at-m.ensures ∙ ap (λ l. arg_at l 0) c.arguments-args.ensures in
    ap (is_open box) a ∙ (greatest_open c.args.problem.now c.args.rule.now box c.known.ensures.domains c.requires.asked c.requires.pred).0

pub greatest_cut-requires-clause-open : goal.greatest_cut-requires-clause-open
greatest_cut-requires-clause-open c =
    let box = c.args.store.now.box in
    let xs = c.items_at-items.ensures ∙ ap (λ l. args_at l 1) c.arguments-args.ensures in
    ap (list_all (is_open box)) xs ∙ (greatest_open c.args.problem.now c.args.rule.now box c.known.ensures.domains c.requires.asked c.requires.pred).1

pub greatest_cut-requires-clause-greatest : goal.greatest_cut-requires-clause-greatest
greatest_cut-requires-clause-greatest c =
    let r = c.args.rule.now in
    let a = c.one_at-m.ensures ∙ ap (λ l. arg_at l 0) c.arguments-args.ensures in
    let xs = c.items_at-items.ensures ∙ ap (λ l. args_at l 1) c.arguments-args.ensures in
    let A : Arg → Type 0 = λ z. IsGreatest r z c.items_at-items.result.now in
    let S : List Arg → Type 0 = λ z. IsGreatest r (arg_at r.args 0) z in
    subst A (sym a) (subst S (sym xs) (greatest_is c.args.problem.now.variables r c.requires.asked.rule c.requires.pred))
