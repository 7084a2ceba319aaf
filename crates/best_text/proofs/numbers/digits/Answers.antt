use Rattle.std.proofs.Common.{arith}
use Rattle.std.proofs.lemmas.List.{nil_from_length}
use Rattle.best_text.proofs.Figures.{digits_ended, digits_differ, digit_told}
use Rattle.best_text.proofs.numbers.digits.Goals as goal

pub returns-in_default-with_digit-clause-err : goal.returns-in_default-with_digit-clause-err
returns-in_default-with_digit-clause-err c =
    let i = c.loop-byte.invariant in
    let r = c.requires in
    digits_differ c.args.most c.args.end c.loop-byte.value c.in-Some.byte.now _ c.loop-byte.rest.now c.in-Some.after.now r.1 r.2 i.low i.high i.told c.in-Some.ensures.cases.0 c.if-byte-end.false c.in_default-with_digit.ensures

pub loop-byte-preserved : goal.loop-byte-preserved
loop-byte-preserved c =
    let d = c.in-Some-with_digit.ensures in
    let most = c.requires.1 in
    let high = d.3 in
    let i = c.loop-byte.invariant in
    record {
      low = (let s = d.2 in let one = i.low in omega arith);
      high = d.3;
      told = digit_told c.loop-byte.value c.in-Some-with_digit.more c.in-Some.byte.now c.loop-byte.rest.now c.in-Some.after.now _ c.in-Some.ensures.cases.0 i.low d.0 d.1 d.2 (omega arith) i.told;
    }

pub returns-clause-err : goal.returns-clause-err
returns-clause-err c =
    let i = c.loop-byte.invariant in
    let r = c.requires in
    digits_ended c.args.most c.args.end c.loop-byte.value _ c.loop-byte.rest.now r.1 r.2 i.low i.high i.told (nil_from_length c.loop-byte.rest.now c.in_default.ensures.cases)
