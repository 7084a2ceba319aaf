use Rattle.std.proofs.Common.{◌≡◌, ◌∙◌, ◌<◌, sym, ap, rules, arith, length, map, get_or}
use Rattle.std.specs.Prelude.{pos, ◌*ℤ◌}
use Rattle.std.proofs.lemmas.Int.{to_z-of_z, ints}
use Rattle.std.proofs.lemmas.List.{length-map, get_or-map}
use mir.Val.{SFits}
use mir.Syntax.{w64, w128}
use Rattle.qc_model.specs.declared.problem.Arg.TheVariants.{Var}
use Rattle.qc_model.specs.Holds.{arg_value}
use Rattle.model_evaluation.proofs.Items.{sum_step, sum_end, at_end}
use Rattle.likeness.proofs.sums.sum_of.Goals as goal

pub loop-k-preserved : goal.loop-k-preserved
loop-k-preserved c =
    let k = c.loop-k.k in
    let f = arg_value c.args.values.now in
    let vs = map f c.args.items.now in
    let n = get_or c.args.factors.now k (pos 0) in
    let n_fits : SFits w64 n = search rules in
    let v_fits : SFits w64 c.value_of.result = search rules in
    let p_fits : SFits w128 c.product.result = search rules in
    let as_many : length vs ≡ length c.args.items.now = length-map c.args.items.now f in
    let in_items : k < length c.args.items.now = omega (arith, c.min-k-end.ensures) in
    let v : c.value_of.result ≡ get_or vs k (pos 0) = c.value_of.ensures ∙ sym (get_or-map f c.args.items.now k (Var (record { 0 = 0 })) (pos 0) in_items) in
    let p = simp to_z-of_z at c.product.ensures in
    let e : c.product.result ≡ n *ℤ get_or vs k (pos 0) = p ∙ ap (λ z. n *ℤ z) v in
    let sum_fits : SFits w128 c.in_ok-sum.sum = search rules in
    let s = simp to_z-of_z at c.in_ok-sum.ensures in
    let step = sum_step c.args.factors.now vs k (omega (arith, c.min-k-end.ensures)) (omega (arith, in_items, as_many)) in
    let sum = c.loop-k.invariant in
    simp to_z-of_z (omega (arith, ints, s.1, e, step, sum))

pub returns : goal.returns
returns c =
    let vs = map (arg_value c.args.values.now) c.args.items.now in
    let as_many : length vs ≡ length c.args.items.now = length-map c.args.items.now (arg_value c.args.values.now) in
    let end = sum_end c.args.factors.now vs c.loop-k.k (at_end (length c.args.factors.now) (length vs) c.loop-k.k (omega (arith, c.min-k-end.ensures, as_many))) in
    let sum = c.loop-k.invariant in
    omega (arith, ints, sum, end)
