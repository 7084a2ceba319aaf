use Rattle.std.proofs.Common.{rules, arith}
use Rattle.std.specs.Prelude.{◌*ℤ◌}
use Rattle.std.proofs.lemmas.Int.{to_z-of_z, fits_signed_from_abs}
use mir.Val.{SFits}
use mir.Syntax.{w64}
use Rattle.qc_refuter.proofs.Terms.{product_small}
use Rattle.qc_refuter.proofs.sums.product.Goals as goal

pub returns-clause-value : goal.returns-clause-value
returns-clause-value c =
    let a_fits : SFits w64 c.args.a = search rules in
    let b_fits : SFits w64 c.args.b = search rules in
    let small = product_small c.args.a c.args.b c.requires.a c.requires.b in
    let fits : SFits w64 (c.args.a *ℤ c.args.b) = fits_signed_from_abs w64 (c.args.a *ℤ c.args.b) (omega (arith, small)) in
    simp to_z-of_z

pub returns-clause-small : goal.returns-clause-small
returns-clause-small c =
    let a_fits : SFits w64 c.args.a = search rules in
    let b_fits : SFits w64 c.args.b = search rules in
    let small = product_small c.args.a c.args.b c.requires.a c.requires.b in
    let fits : SFits w64 (c.args.a *ℤ c.args.b) = fits_signed_from_abs w64 (c.args.a *ℤ c.args.b) (omega (arith, small)) in
    simp to_z-of_z small

pub overflow_mul-result : goal.overflow_mul-result
overflow_mul-result c =
    let a_fits : SFits w64 c.args.a = search rules in
    let b_fits : SFits w64 c.args.b = search rules in
    let small = product_small c.args.a c.args.b c.requires.a c.requires.b in
    let fits : SFits w64 (c.args.a *ℤ c.args.b) = fits_signed_from_abs w64 (c.args.a *ℤ c.args.b) (omega (arith, small)) in
    simp to_z-of_z fits
