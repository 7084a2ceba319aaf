use Rattle.std.proofs.Common.{rules, arith}
use Rattle.std.specs.Prelude.{pos, ◌-ℤ◌, ◌<ℤ◌, ℤ}
use Rattle.std.proofs.lemmas.Int.{ints, to_z-of_z}
use mir.Val.{SFits}
use mir.Syntax.{w64}
use Rattle.dense_close.specs.Cutting.{IsBarred}
use Rattle.dense_close.proofs.Barred.{barred_below}
use Rattle.dense_close.proofs.advising.cut_below.Goals as goal

pub cut_part-requires-clause-told : goal.cut_part-requires-clause-told
cut_part-requires-clause-told c = λ sure.
    let g = c.args.problem.now in
    let box = c.args.remains.now.box in
    let low = c.args.kept.stretch.low in
    let least = c.min-least.result in
    let least_fits : SFits w64 least = search rules in
    let low_fits : SFits w64 low = search rules in
    let below_fits : SFits w64 (low -ℤ pos 1) = search rules in
    let barred : IsBarred g c.args.c.0 c.args.x.0 box least (low -ℤ pos 1) = barred_below c.args.kept g c.args.c.0 c.args.x.0 box least (low -ℤ pos 1) sure (before low) c.requires.told in
    simp to_z-of_z barred
  where
    before : (n : ℤ) → (n -ℤ pos 1) <ℤ n
    before n = omega (arith, ints)
