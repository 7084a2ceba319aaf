use Rattle.std.proofs.Common.{◌≡◌, ◌≤◌, ◌∙◌, sym, ap, subst, rules, true, length, map, List, ℤ}
use Rattle.std.specs.List.{list_all}
use Rattle.std.proofs.lemmas.Int.{to_z-of_z}
use mir.Val.{SFits}
use mir.Syntax.{w128}
use Rattle.qc_model.specs.declared.problem.Arg.{Arg}
use Rattle.qc_model.specs.declared.problem.Argument.{Argument}
use Rattle.qc_model.specs.Holds.{arg_value, sum_of_products}
use Rattle.qc_model.specs.Valid.{is_number}
use Rattle.model_arguments.specs.Written.{args_at, ints_at}
use Rattle.model_evaluation.specs.Evaluation.{item_values}
use Rattle.model_evaluation.proofs.Valued.{items_are_few, items_are_small, numbers_are_small}
use Rattle.likeness.proofs.Seeing.{left_sum_written}
use Rattle.dense_alike.proofs.sums.known.Goals as goal

pub sum_of-requires-clause-factors : goal.sum_of-requires-clause-factors
sum_of-requires-clause-factors c =
    let args = c.args.rule.now.args in
    let is = c.numbers_at.ensures ∙ ap (λ (us : List Argument). ints_at us 0) c.arguments-args.ensures in
    subst (λ (ns : List ℤ). list_all is_number ns ≡ true) (sym is) (numbers_are_small c.args.values.now args 0 c.requires)

pub sum_of-requires-clause-items : goal.sum_of-requires-clause-items
sum_of-requires-clause-items c =
    let args = c.args.rule.now.args in
    let is = c.items_at.ensures ∙ ap (λ (us : List Argument). args_at us 1) c.arguments-args.ensures in
    subst (λ (xs : List Arg). list_all is_number (item_values c.args.values.now xs) ≡ true) (sym is) (items_are_small c.args.values.now args 1 c.requires)

pub sum_of-requires-clause-few : goal.sum_of-requires-clause-few
sum_of-requires-clause-few c =
    let args = c.args.rule.now.args in
    let is = c.items_at.ensures ∙ ap (λ (us : List Argument). args_at us 1) c.arguments-args.ensures in
    subst (λ (xs : List Arg). length xs ≤ 1000) (sym is) (items_are_few c.args.values.now args 1 c.requires)

pub returns : goal.returns
returns c =
    let args = c.args.rule.now.args in
    let f = arg_value c.args.values.now in
    let fits : SFits w128 c.sum_of.result = search rules in
    let ns = c.numbers_at.ensures ∙ ap (λ (us : List Argument). ints_at us 0) c.arguments-args.ensures in
    let xs = c.items_at.ensures ∙ ap (λ (us : List Argument). args_at us 1) c.arguments-args.ensures in
    simp to_z-of_z
    (c.sum_of.ensures
    ∙ (ap (λ (ms : List ℤ). sum_of_products ms (map f c.items_at.result.now)) ns
    ∙ (ap (λ (us : List Arg). sum_of_products (ints_at args 0) (map f us)) xs ∙ sym (left_sum_written f args))))
