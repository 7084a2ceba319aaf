use Rattle.std.proofs.Common.{◌≡◌, ◌||◌, int_eq, w64, rules, arith}
use mir.Val.{SFits}
use Rattle.std.proofs.lemmas.Int.{to_z-of_z}
use Rattle.qc_model.proofs.Bits.{same_bits}
use Rattle.qc_model.specs.declared.problem.Arg.TheVariants.{Var}
use Rattle.qc_model.specs.Holds.{arg_value}
use Rattle.model_evaluation.proofs.Steps.{reached_before, reached_now, greatest_more, greatest_past, greatest_end}
use Rattle.model_evaluation.proofs.elements.is_greatest.Goals as goal
use Rattle.model_evaluation.proofs.elements.is_greatest.Goals.{then-reached, else-reached}

pub loop-item-preserved : goal.loop-item-preserved
loop-item-preserved c =
    let fits : SFits w64 c.args.greatest = search rules in
    let v_fits : SFits w64 c.value_of-value.result = search rules in
    let same = same_bits c.value_of-value.result c.args.greatest v_fits fits in
    let l = simp to_z-of_z at c.if-value-greatest.false in
    let told = simp to_z-of_z at c.loop-item.invariant in
    let reached : c.if-reached.reached ≡ (c.loop-item.reached || int_eq c.value_of-value.result c.args.greatest) = elim c.if-reached.branch [
      | then-reached w ↦ reached_before c.loop-item.reached c.if-reached.reached (int_eq c.value_of-value.result c.args.greatest) w.reached-is w.if-reached.true
      | else-reached w ↦ reached_now c.loop-item.reached c.if-reached.reached (int_eq c.value_of-value.result c.args.greatest) _ w.reached-is same w.if-reached.false
    ] in
    simp to_z-of_z (greatest_more (arg_value c.args.values.now) c.args.items.now c.loop-item.item-index (Var (record { 0 = 0 })) c.args.greatest c.value_of-value.result c.loop-item.reached c.if-reached.reached _ c.loop-item-test.true c.value_of-value.ensures l reached told)

pub returns-then-value-greatest : goal.returns-then-value-greatest
returns-then-value-greatest c =
    let fits : SFits w64 c.args.greatest = search rules in
    let v_fits : SFits w64 c.value_of-value.result = search rules in
    let l = simp to_z-of_z at c.if-value-greatest.true in
    let told = simp to_z-of_z at c.loop-item.invariant in
    greatest_past (arg_value c.args.values.now) c.args.items.now c.loop-item.item-index (Var (record { 0 = 0 })) c.args.greatest c.value_of-value.result c.loop-item.reached _ c.loop-item-test.true c.value_of-value.ensures l told

pub returns : goal.returns
returns c =
    let fits : SFits w64 c.args.greatest = search rules in
    let told = simp to_z-of_z at c.loop-item.invariant in
    greatest_end (arg_value c.args.values.now) c.args.items.now c.loop-item.item-index c.args.greatest c.loop-item.reached _ (omega (arith, c.loop-item-test.false)) told
