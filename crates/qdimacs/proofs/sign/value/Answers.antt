use Rattle.std.proofs.Common.{arith, ◌+◌}
use Rattle.qdimacs.proofs.Digits.{value_more, value_small}
use Rattle.qdimacs.proofs.sign.value.Goals as goal

pub overflow_mul-value : goal.overflow_mul-value
overflow_mul-value c =
    let m = value_more c.args.digits.now c.loop-digit.digit-index c.loop-digit.value c.requires.digits c.loop-digit-test.true c.loop-digit.invariant in
    let s = value_small c.args.digits.now (c.loop-digit.digit-index + 1) c.requires.digits c.requires.few in
    omega arith

pub overflow_add-value : goal.overflow_add-value
overflow_add-value c =
    let m = value_more c.args.digits.now c.loop-digit.digit-index c.loop-digit.value c.requires.digits c.loop-digit-test.true c.loop-digit.invariant in
    let s = value_small c.args.digits.now (c.loop-digit.digit-index + 1) c.requires.digits c.requires.few in
    omega arith

pub loop-digit-preserved : goal.loop-digit-preserved
loop-digit-preserved c = value_more c.args.digits.now c.loop-digit.digit-index c.loop-digit.value c.requires.digits c.loop-digit-test.true c.loop-digit.invariant
