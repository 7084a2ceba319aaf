use Rattle.std.proofs.Common.{arith}
use Rattle.proof_text.proofs.Numerals.{counted_more}
use Rattle.proof_text.proofs.numeral.later_byte.Goals as goal

pub returns-in-Some : goal.returns-in-Some
returns-in-Some c =
    let d = c.with_digit.ensures in
    let e = c.in-Some.ensures in
    counted_more c.args.most c.args.value c.in-Some.value c.args.end c.args.byte c.if-byte-end.false (omega arith) (omega arith) e.2 e.3 c.requires.fits.0 c.requires.range.1
