use Rattle.std.proofs.Common.{rules, arith}
use Rattle.std.specs.Prelude.{pos, ◌+ℤ◌, ◌<ℤ◌, ℤ}
use Rattle.std.proofs.lemmas.Int.{ints, to_z-of_z}
use mir.Val.{SFits}
use mir.Syntax.{w64}
use Rattle.dense_close.specs.Cutting.{IsBarred}
use Rattle.dense_close.proofs.Barred.{barred_above}
use Rattle.dense_close.proofs.advising.cut_above.Goals as goal

pub cut_part-requires-clause-told : goal.cut_part-requires-clause-told
cut_part-requires-clause-told c = λ sure.
    let g = c.args.problem.now in
    let box = c.args.remains.now.box in
    let high = c.args.kept.stretch.high in
    let greatest = c.max-greatest.result in
    let greatest_fits : SFits w64 greatest = search rules in
    let high_fits : SFits w64 high = search rules in
    let above_fits : SFits w64 (high +ℤ pos 1) = search rules in
    let barred : IsBarred g c.args.c.0 c.args.x.0 box (high +ℤ pos 1) greatest = barred_above c.args.kept g c.args.c.0 c.args.x.0 box (high +ℤ pos 1) greatest sure (after high) c.requires.told in
    simp to_z-of_z barred
  where
    after : (n : ℤ) → n <ℤ (n +ℤ pos 1)
    after n = omega (arith, ints)
