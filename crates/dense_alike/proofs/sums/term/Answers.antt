use Rattle.std.proofs.Common.{◌≡◌, ◌≤◌, rules, get_or, ap, subst, sym, ◌∙◌, ℤ}
use Rattle.std.specs.Prelude.{pos, ◌*ℤ◌, unsigned_abs}
use Rattle.std.proofs.lemmas.Int.{to_z-of_z}
use Rattle.std.proofs.lemmas.List.{get_or-map}
use mir.Val.{SFits}
use mir.Syntax.{w64, w128}
use Rattle.qc_model.specs.declared.problem.Arg.TheVariants.{Var}
use Rattle.model_evaluation.specs.Evaluation.{item_values}
use Rattle.qc_model.specs.Holds.{arg_value}
use Rattle.model_evaluation.proofs.Items.{number_at, item_at, small_product}
use Rattle.dense_alike.proofs.sums.term.Goals as goal

pub returns : goal.returns
returns c =
    let vs = item_values c.args.values.now c.args.items.now in
    let n = get_or c.args.factors.now c.args.k (pos 0) in
    let n_fits : SFits w64 n = search rules in
    let v_fits : SFits w64 c.value_of.result = search rules in
    let r_fits : SFits w128 c.product.result = search rules in
    let v : c.value_of.result ≡ get_or vs c.args.k (pos 0) = c.value_of.ensures ∙ sym (get_or-map (arg_value c.args.values.now) c.args.items.now c.args.k (Var (record { 0 = 0 })) (pos 0) c.requires.item) in
    let p = simp to_z-of_z at c.product.ensures in
    let e : c.product.result ≡ n *ℤ get_or vs c.args.k (pos 0) = p ∙ ap (λ z. n *ℤ z) v in
    let small = small_product n (get_or vs c.args.k (pos 0)) (number_at c.args.factors.now c.args.k (pos 0) c.requires.factor c.requires.factors) (item_at (arg_value c.args.values.now) c.args.items.now c.args.k (pos 0) c.requires.item c.requires.items) in
    let P : ℤ → Type 0 = λ z. unsigned_abs z ≤ 1000000000000000000 in
    simp to_z-of_z (record { value = e; small = subst P (sym e) small })
