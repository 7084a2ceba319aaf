use Rattle.std.proofs.Common.{◌∙◌, sym, ap, subst, List}
use Rattle.std.specs.List.{list_all}
use Rattle.qc_model.specs.declared.problem.Arg.{Arg}
use Rattle.model_arguments.specs.Written.{arg_at, args_at}
use Rattle.qc_refuter.specs.Met.{is_open}
use Rattle.prop_element.specs.Extremes.{IsLeast}
use Rattle.prop_element.proofs.Shapes.{least_open, least_is}
use Rattle.prop_element.proofs.least.minimum_cut.Goals as goal

pub least_cut-requires-clause-first : goal.least_cut-requires-clause-first
least_cut-requires-clause-first c =
    let box = c.args.store.now.box in
    let a = c.one_at-m.ensures ∙ ap (λ l. arg_at l 0) c.arguments-args.ensures in
    ap (is_open box) a ∙ (least_open c.args.problem.now c.args.rule.now box c.known.ensures.domains c.requires.asked c.requires.pred).0

pub least_cut-requires-clause-open : goal.least_cut-requires-clause-open
least_cut-requires-clause-open c =
    let box = c.args.store.now.box in
    let xs = c.items_at-items.ensures ∙ ap (λ l. args_at l 1) c.arguments-args.ensures in
    ap (list_all (is_open box)) xs ∙ (least_open c.args.problem.now c.args.rule.now box c.known.ensures.domains c.requires.asked c.requires.pred).1

pub least_cut-requires-clause-least : goal.least_cut-requires-clause-least
least_cut-requires-clause-least c =
    let r = c.args.rule.now in
    let a = c.one_at-m.ensures ∙ ap (λ l. arg_at l 0) c.arguments-args.ensures in
    let xs = c.items_at-items.ensures ∙ ap (λ l. args_at l 1) c.arguments-args.ensures in
    let A : Arg → Type 0 = λ z. IsLeast r z c.items_at-items.result.now in
    let S : List Arg → Type 0 = λ z. IsLeast r (arg_at r.args 0) z in
    subst A (sym a) (subst S (sym xs) (least_is c.args.problem.now.variables r c.requires.asked.rule c.requires.pred))
