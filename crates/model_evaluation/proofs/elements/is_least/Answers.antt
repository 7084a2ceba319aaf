use Rattle.std.proofs.Common.{◌≡◌, ◌||◌, int_eq, w64, rules, arith}
use mir.Val.{SFits}
use Rattle.std.proofs.lemmas.Int.{to_z-of_z}
use Rattle.qc_model.proofs.Bits.{same_bits}
use Rattle.qc_model.specs.declared.problem.Arg.TheVariants.{Var}
use Rattle.qc_model.specs.Holds.{arg_value}
use Rattle.model_evaluation.proofs.Steps.{reached_before, reached_now, least_more, least_past, least_end}
use Rattle.model_evaluation.proofs.elements.is_least.Goals as goal
use Rattle.model_evaluation.proofs.elements.is_least.Goals.{then-reached, else-reached}

pub loop-item-preserved : goal.loop-item-preserved
loop-item-preserved c =
    let fits : SFits w64 c.args.least = search rules in
    let v_fits : SFits w64 c.value_of-value.result = search rules in
    let same = same_bits c.value_of-value.result c.args.least v_fits fits in
    let l = simp to_z-of_z at c.if-value-least.false in
    let told = simp to_z-of_z at c.loop-item.invariant in
    let reached : c.if-reached.reached ≡ (c.loop-item.reached || int_eq c.value_of-value.result c.args.least) = elim c.if-reached.branch [
      | then-reached w ↦ reached_before c.loop-item.reached c.if-reached.reached (int_eq c.value_of-value.result c.args.least) w.reached-is w.if-reached.true
      | else-reached w ↦ reached_now c.loop-item.reached c.if-reached.reached (int_eq c.value_of-value.result c.args.least) _ w.reached-is same w.if-reached.false
    ] in
    simp to_z-of_z (least_more (arg_value c.args.values.now) c.args.items.now c.loop-item.item-index (Var (record { 0 = 0 })) c.args.least c.value_of-value.result c.loop-item.reached c.if-reached.reached _ c.loop-item-test.true c.value_of-value.ensures l reached told)

pub returns-then-value-least : goal.returns-then-value-least
returns-then-value-least c =
    let fits : SFits w64 c.args.least = search rules in
    let v_fits : SFits w64 c.value_of-value.result = search rules in
    let l = simp to_z-of_z at c.if-value-least.true in
    let told = simp to_z-of_z at c.loop-item.invariant in
    least_past (arg_value c.args.values.now) c.args.items.now c.loop-item.item-index (Var (record { 0 = 0 })) c.args.least c.value_of-value.result c.loop-item.reached _ c.loop-item-test.true c.value_of-value.ensures l told

pub returns : goal.returns
returns c =
    let fits : SFits w64 c.args.least = search rules in
    let told = simp to_z-of_z at c.loop-item.invariant in
    least_end (arg_value c.args.values.now) c.args.items.now c.loop-item.item-index c.args.least c.loop-item.reached _ (omega (arith, c.loop-item-test.false)) told
