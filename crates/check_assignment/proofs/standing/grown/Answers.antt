use Rattle.std.proofs.Common.{arith}
use Rattle.std.specs.Prelude.{◌+ℤ◌, ◌*ℤ◌}
use Rattle.std.proofs.lemmas.Int.{to_z-of_z, fits_signed_from_abs}
use mir.Val.{SFits}
use mir.Syntax.{w64, w128}
use Rattle.check_assignment.proofs.Standings.{grown_small, product_small}
use Rattle.check_assignment.proofs.standing.grown.Goals as goal

pub overflow_add-result : goal.overflow_add-result
overflow_add-result c =
    let t_fits : SFits w128 c.args.total = c.ranges.total in
    let f_near : SFits w64 c.args.factor = c.ranges.factor in
    let s_near : SFits w64 c.args.step = c.ranges.step in
    let f_fits : SFits w128 c.args.factor = fits_signed_from_abs w128 c.args.factor (omega (arith, c.requires.factor)) in
    let s_fits : SFits w128 c.args.step = fits_signed_from_abs w128 c.args.step (omega (arith, c.requires.step)) in
    let p_fits : SFits w128 (c.args.factor *ℤ c.args.step) = fits_signed_from_abs w128 (c.args.factor *ℤ c.args.step) (omega (arith, product_small c.args.factor c.args.step c.requires.factor c.requires.step)) in
    let small = grown_small c.args.total c.args.factor c.args.step c.requires.total c.requires.factor c.requires.step in
    simp to_z-of_z (fits_signed_from_abs w128 (c.args.total +ℤ (c.args.factor *ℤ c.args.step)) (omega (arith, small)))

pub returns : goal.returns
returns c =
    let t_fits : SFits w128 c.args.total = c.ranges.total in
    let f_near : SFits w64 c.args.factor = c.ranges.factor in
    let s_near : SFits w64 c.args.step = c.ranges.step in
    let f_fits : SFits w128 c.args.factor = fits_signed_from_abs w128 c.args.factor (omega (arith, c.requires.factor)) in
    let s_fits : SFits w128 c.args.step = fits_signed_from_abs w128 c.args.step (omega (arith, c.requires.step)) in
    let p_fits : SFits w128 (c.args.factor *ℤ c.args.step) = fits_signed_from_abs w128 (c.args.factor *ℤ c.args.step) (omega (arith, product_small c.args.factor c.args.step c.requires.factor c.requires.step)) in
    let small = grown_small c.args.total c.args.factor c.args.step c.requires.total c.requires.factor c.requires.step in
    let fits : SFits w128 (c.args.total +ℤ (c.args.factor *ℤ c.args.step)) = fits_signed_from_abs w128 (c.args.total +ℤ (c.args.factor *ℤ c.args.step)) (omega (arith, small)) in
    simp to_z-of_z
