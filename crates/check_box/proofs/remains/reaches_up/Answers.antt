use Rattle.std.proofs.Common.{◌≡◌, false, arith, rules, ℤ}
use Rattle.std.specs.Prelude.{int_le, ◌<ℤ◌}
use Rattle.std.proofs.lemmas.Int.{ints, to_z-of_z}
use mir.Val.{SFits}
use mir.Syntax.{w64}
use Rattle.qc_model.specs.Domains.{values_left}
use Rattle.box_laws.proofs.Emptying.{none_above}
use Rattle.check_box.proofs.remains.reaches_up.Goals as goal

above : (m lo g : ℤ) → m ≡ g → int_le lo m ≡ false → g <ℤ lo
above m lo g e h = grind (arith, ints)

pub returns : goal.returns
returns c =
    let lo_fits : SFits w64 c.args.lo = search rules in
    let m_fits : SFits w64 c.max.result = search rules in
    let vs = values_left c.args.store.now.box c.args.x.0 in
    simp to_z-of_z (λ h hi. none_above c.args.lo hi vs (above c.max.result c.args.lo _ c.max.ensures h))
