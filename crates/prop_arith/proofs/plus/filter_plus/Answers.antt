use Rattle.std.proofs.Common.{◌∙◌, List, sym, ap, subst}
use Rattle.std.specs.Prelude.{pos}
use Rattle.std.specs.List.{list_all}
use Rattle.qc_model.specs.declared.problem.Arg.{Arg}
use Rattle.qc_model.specs.Valid.{arg_sees}
use Rattle.model_arguments.specs.Written.{arg_at}
use Rattle.qc_refuter.specs.Met.{is_open}
use Rattle.prop_linear.specs.Sides.{IsBalanced}
use Rattle.prop_arith.proofs.Sums.{signs, row, plus_balanced, plus_sees, plus_open}
use Rattle.prop_arith.proofs.plus.filter_plus.Goals as goal

pub filter_sum_equal-requires-clause-balanced : goal.filter_sum_equal-requires-clause-balanced
filter_sum_equal-requires-clause-balanced c =
    let r = c.args.asked.rule.now in
    let args = c.arguments-args.ensures in
    let e = row c.one_at.result c.one_at-2.result c.one_at-3.result (arg_at r.args 0) (arg_at r.args 1) (arg_at r.args 2) (c.one_at.ensures ∙ ap (λ a. arg_at a 0) args) (c.one_at-2.ensures ∙ ap (λ a. arg_at a 1) args) (c.one_at-3.ensures ∙ ap (λ a. arg_at a 2) args) in
    let P : List Arg → Type 0 = λ xs. IsBalanced r c.args.store.now.box signs xs (pos 0) in
    subst P (sym e) (plus_balanced c.args.asked.problem.now.variables r c.requires.fits.rule c.requires.pred c.args.store.now.box)

pub filter_sum_equal-requires-clause-sees : goal.filter_sum_equal-requires-clause-sees
filter_sum_equal-requires-clause-sees c =
    let g = c.args.asked.problem.now in
    let r = c.args.asked.rule.now in
    let args = c.arguments-args.ensures in
    let e = row c.one_at.result c.one_at-2.result c.one_at-3.result (arg_at r.args 0) (arg_at r.args 1) (arg_at r.args 2) (c.one_at.ensures ∙ ap (λ a. arg_at a 0) args) (c.one_at-2.ensures ∙ ap (λ a. arg_at a 1) args) (c.one_at-3.ensures ∙ ap (λ a. arg_at a 2) args) in
    ap (list_all (arg_sees g.variables r.owner.0)) e ∙ plus_sees g.variables r c.requires.fits.rule c.requires.pred

pub filter_sum_equal-requires-clause-open : goal.filter_sum_equal-requires-clause-open
filter_sum_equal-requires-clause-open c =
    let g = c.args.asked.problem.now in
    let r = c.args.asked.rule.now in
    let box = c.args.store.now.box in
    let args = c.arguments-args.ensures in
    let e = row c.one_at.result c.one_at-2.result c.one_at-3.result (arg_at r.args 0) (arg_at r.args 1) (arg_at r.args 2) (c.one_at.ensures ∙ ap (λ a. arg_at a 0) args) (c.one_at-2.ensures ∙ ap (λ a. arg_at a 1) args) (c.one_at-3.ensures ∙ ap (λ a. arg_at a 2) args) in
    ap (list_all (is_open box)) e ∙ plus_open g r box c.known.ensures.domains c.requires.fits c.requires.pred
