use Rattle.std.proofs.Common.{◌∙◌, arith}
use Rattle.proof_text.proofs.Sequences.{digit_goes, digit_told}
use Rattle.proof_text.proofs.scan.more_digits.Goals as goal

pub loop-byte-preserved : goal.loop-byte-preserved
loop-byte-preserved c =
    let d = c.in-Some-with_digit.ensures in
    let most = c.requires.1 in
    let high = d.3 in
    let i = c.loop-byte.invariant in
    record {
      low = (let s = d.2 in let one = i.low in omega arith);
      high = d.3;
      told = digit_told c.loop-byte.value c.in-Some-with_digit.more c.in-Some.byte.now c.loop-byte.rest.now c.in-Some.after.now _ c.in-Some.ensures.cases.0 i.low d.0 d.1 d.2 (omega arith) i.told;
      goes = λ k. i.goes k ∙ digit_goes c.args.most c.loop-byte.value c.in-Some-with_digit.more c.args.end c.in-Some.byte.now c.loop-byte.rest.now c.in-Some.after.now k c.in-Some.ensures.cases.0 c.if-byte-end.false d.0 d.1 d.2 d.3;
    }
