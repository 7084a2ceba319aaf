use Rattle.std.proofs.Common.{refl, rules}
use Rattle.std.specs.Prelude.{pos, ◌-ℤ◌, ◌+ℤ◌}
use Rattle.std.proofs.lemmas.Int.{to_z-of_z}
use mir.Val.{SFits}
use mir.Syntax.{w64}
use Rattle.prop_arith.proofs.Keeping.{beyond_low, beyond_high, fits_before, fits_after}
use Rattle.prop_arith.proofs.greater.cut_beyond.Goals as goal

pub returns-then-have-keep-clause-some : goal.returns-then-have-keep-clause-some
returns-then-have-keep-clause-some c =
    let have_fits : SFits w64 c.args.have.least = search rules in
    let keep_fits : SFits w64 c.args.keep.least = search rules in
    let u = c.requires.hull c.in-Var.x c.in-Var.is in
    let hi_fits : SFits w64 (c.args.keep.least -ℤ pos 1) = fits_before c.args.keep.least u.small_low in
    let t = simp to_z-of_z at c.if-have-keep.true in
    simp to_z-of_z (beyond_low c.args.rule.now c.args.store.now.box c.args.a c.in-Var.x c.args.have c.args.keep (c.args.keep.least -ℤ pos 1) c.requires.open c.in-Var.is c.requires.have u refl t)

pub returns-then-keep-have-clause-some : goal.returns-then-keep-have-clause-some
returns-then-keep-have-clause-some c =
    let have_fits : SFits w64 c.args.have.greatest = search rules in
    let keep_fits : SFits w64 c.args.keep.greatest = search rules in
    let u = c.requires.hull c.in-Var.x c.in-Var.is in
    let lo_fits : SFits w64 (c.args.keep.greatest +ℤ pos 1) = fits_after c.args.keep.greatest u.small_high in
    let t = simp to_z-of_z at c.if-keep-have.true in
    simp to_z-of_z (beyond_high c.args.rule.now c.args.store.now.box c.args.a c.in-Var.x c.args.have c.args.keep (c.args.keep.greatest +ℤ pos 1) c.requires.open c.in-Var.is c.requires.have u refl t)
