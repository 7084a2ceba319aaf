use Rattle.std.proofs.Common.{◌≡◌, ◌<◌, rules, arith, length}
use Rattle.std.specs.Prelude.{◌+ℤ◌}
use Rattle.std.proofs.lemmas.Int.{to_z-of_z, ints, fits_signed_from_abs}
use Rattle.std.proofs.lemmas.List.{length-map}
use mir.Val.{SFits, to_z}
use mir.Syntax.{w128}
use Rattle.model_evaluation.specs.Evaluation.{item_values}
use Rattle.qc_model.specs.Holds.{arg_value}
use Rattle.model_evaluation.proofs.Items.{sum_step, sum_end, at_end, abs_sum}
use Rattle.dense_alike.proofs.sums.sum_of.Goals as goal

pub overflow_add-sum : goal.overflow_add-sum
overflow_add-sum c =
    let r_fits : SFits w128 c.term-sum.result = search rules in
    let few : c.loop-k.k < 1000 = omega (arith, c.requires.few, c.min-count.ensures) in
    let s = to_z w128 c.loop-k.sum-bits in
    let t = abs_sum s c.term-sum.result in
    simp to_z-of_z (fits_signed_from_abs w128 (s +ℤ c.term-sum.result) (omega (arith, t, c.loop-k.invariant.small, c.term-sum.ensures.small)))

pub loop-k-preserved : goal.loop-k-preserved
loop-k-preserved c =
    let r_fits : SFits w128 c.term-sum.result = search rules in
    let few : c.loop-k.k < 1000 = omega (arith, c.requires.few, c.min-count.ensures) in
    let s = to_z w128 c.loop-k.sum-bits in
    let t = abs_sum s c.term-sum.result in
    let s_fits : SFits w128 (s +ℤ c.term-sum.result) = fits_signed_from_abs w128 (s +ℤ c.term-sum.result) (omega (arith, t, c.loop-k.invariant.small, c.term-sum.ensures.small)) in
    let vs = item_values c.args.values.now c.args.items.now in
    let as_many : length vs ≡ length c.args.items.now = length-map c.args.items.now (arg_value c.args.values.now) in
    let step = sum_step c.args.factors.now vs c.loop-k.k (omega (arith, c.min-count.ensures)) (omega (arith, c.min-count.ensures, as_many)) in
    let value = c.term-sum.ensures.value in
    let sum = c.loop-k.invariant.sum in
    simp to_z-of_z
    (record {
      small = omega (arith, t, c.loop-k.invariant.small, c.term-sum.ensures.small);
      sum = omega (arith, ints, value, sum, step);
    })

pub returns : goal.returns
returns c =
    let vs = item_values c.args.values.now c.args.items.now in
    let as_many : length vs ≡ length c.args.items.now = length-map c.args.items.now (arg_value c.args.values.now) in
    let end = sum_end c.args.factors.now vs c.loop-k.k (at_end (length c.args.factors.now) (length vs) c.loop-k.k (omega (arith, c.min-count.ensures, as_many))) in
    let sum = c.loop-k.invariant.sum in
    omega (arith, ints, sum, end)
