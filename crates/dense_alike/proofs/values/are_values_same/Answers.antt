use Rattle.std.proofs.Common.{◌∙◌, sym}
use Rattle.qc_model.specs.Arguments.{argument_variables}
use Rattle.dense_alike.proofs.Seeing.{same_step, first_holds, first_fails}
use Rattle.dense_alike.proofs.values.are_values_same.Goals as goal

pub returns-then-not-is_argument_same : goal.returns-then-not-is_argument_same
returns-then-not-is_argument_same c =
    let here = c.args.here.now in
    let there = c.args.there.now in
    let k = c.loop-argument.argument-index in
    let x = c.argument-item.result in
    let step = same_step argument_variables here there c.args.args.now k x c.loop-argument-test.true c.argument-item.is in
    first_fails _ _ _ step (sym c.is_argument_same.ensures ∙ c.if-not-is_argument_same.true) ∙ c.loop-argument.invariant

pub loop-argument-preserved : goal.loop-argument-preserved
loop-argument-preserved c =
    let here = c.args.here.now in
    let there = c.args.there.now in
    let k = c.loop-argument.argument-index in
    let x = c.argument-item.result in
    let step = same_step argument_variables here there c.args.args.now k x c.loop-argument-test.true c.argument-item.is in
    sym (first_holds _ _ _ step (sym c.is_argument_same.ensures ∙ c.if-not-is_argument_same.false)) ∙ c.loop-argument.invariant
