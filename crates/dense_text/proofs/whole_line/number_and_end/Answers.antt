use Rattle.std.proofs.Common.{◌≡◌, refl, arith, w64, to_z, of_z}
use Rattle.std.proofs.lemmas.Int.{to_z-of_z}
use Rattle.dense_text.proofs.WholeLines.{digit_fits, digit_read, number_ends}
use Rattle.dense_text.proofs.whole_line.number_and_end.Goals as goal

pub loop-byte-preserved : goal.loop-byte-preserved
loop-byte-preserved c =
    let i = c.loop-byte.invariant in
    let g = c.args.field in
    let n = c.loop-byte.numeral in
    let b = c.in-Some.byte.now in
    record {
      fits = digit_fits g n c.in-More.more b i.fits c.in-More.ensures.reads;
      text = digit_read g n c.in-More.more b c.args.bytes.now c.loop-byte.rest.now c.in-Some.after.now i.fits c.in-More.ensures.reads c.in-Some.ensures.cases.0 i.text;
    }

pub returns-in-Done : goal.returns-in-Done
returns-in-Done c =
    let i = c.loop-byte.invariant in
    let e : to_z w64 (of_z w64 c.in-Done.number) ≡ c.in-Done.number = grind (arith, to_z-of_z) in
    rw e
    (number_ends c.args.field c.loop-byte.numeral c.in-Done.number c.in-Some.byte.now c.in-Some.byte.now c.args.bytes.now c.loop-byte.rest.now c.in-Some.after.now i.fits c.in-Done.ensures.reads c.in-Some.ensures.cases.0
    refl i.text)
