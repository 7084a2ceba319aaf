use Rattle.std.proofs.Common.{List, [], ◌∙◌, sym, ap, subst}
use Rattle.qc_model.specs.declared.problem.Arg.{Arg}
use Rattle.model_arguments.specs.Written.{arg_at, args_at}
use Rattle.prop_bool.specs.Literals.{IsDisjunction, literals, plain}
use Rattle.prop_bool.proofs.Junctions.{some_item_says}
use Rattle.prop_bool.proofs.predicates.filter_some_item.Goals as goal

pub filter_disjunction-requires-clause-says : goal.filter_disjunction-requires-clause-says
filter_disjunction-requires-clause-says c =
    let g = c.args.asked.problem.now in
    let r = c.args.asked.rule.now in
    let xs = c.items_at-items.ensures ∙ ap (λ a. args_at a 0) c.arguments-args.ensures in
    let h = c.one_at.ensures ∙ ap (λ a. arg_at a 1) c.arguments-args.ensures in
    let A : List Arg → Type 0 = λ z. IsDisjunction g r (literals z []) (plain c.one_at.result) in
    let B : Arg → Type 0 = λ z. IsDisjunction g r (literals (args_at r.args 0) []) (plain z) in
    subst A (sym xs) (subst B (sym h) (some_item_says g r c.args.store.now.box c.requires.fits c.requires.meaning))
