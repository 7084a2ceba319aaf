use Rattle.std.proofs.Common.{rules, arith}
use Rattle.std.specs.Prelude.{◌-ℤ◌}
use Rattle.std.proofs.lemmas.Int.{to_z-of_z, fits_signed_from_abs}
use mir.Val.{SFits}
use mir.Syntax.{w64}
use Rattle.dense_quiet.proofs.Outside.{difference_small}
use Rattle.dense_quiet.proofs.guessing.less.Goals as goal

pub returns : goal.returns
returns c =
    let a_fits : SFits w64 c.args.a = search rules in
    let b_fits : SFits w64 c.args.b = search rules in
    let small = difference_small c.args.a c.args.b c.requires.a c.requires.b in
    let fits : SFits w64 (c.args.a -ℤ c.args.b) = fits_signed_from_abs w64 (c.args.a -ℤ c.args.b) (omega (arith, small)) in
    simp to_z-of_z
