use Rattle.std.proofs.Common.{◌≡◌, refl, Bool, true, false, not, w64, rules, arith}
use mir.Val.{SFits}
use Rattle.qc_model.specs.declared.problem.Arg.TheVariants.{Var}
use Rattle.qc_model.specs.Holds.{arg_value, odd_ones}
use Rattle.model_evaluation.specs.Evaluation.{item_values}
use Rattle.model_evaluation.proofs.Steps.{odd_more, odd_end}
use Rattle.model_evaluation.proofs.truths.odd_count.Goals as goal

twice : (b : Bool) → not (not b) ≡ b
twice true = refl
twice false = refl

pub loop-item-init : goal.loop-item-init
loop-item-init c = twice (odd_ones (item_values c.args.values.now c.args.items.now))

pub loop-item-preserved : goal.loop-item-preserved
loop-item-preserved c =
    let fits : SFits w64 c.value_of.result = search rules in
    odd_more (arg_value c.args.values.now) c.args.items.now c.loop-item.item-index (Var (record { 0 = 0 })) c.loop-item.odd _ c.value_of.result c.loop-item-test.true c.value_of.ensures fits c.loop-item.invariant

pub returns : goal.returns
returns c = odd_end (arg_value c.args.values.now) c.args.items.now c.loop-item.item-index c.loop-item.odd _ (omega (arith, c.loop-item-test.false)) c.loop-item.invariant
