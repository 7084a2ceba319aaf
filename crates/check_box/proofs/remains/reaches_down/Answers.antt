use Rattle.std.proofs.Common.{◌≡◌, false, arith, rules, ℤ}
use Rattle.std.specs.Prelude.{int_le, ◌<ℤ◌}
use Rattle.std.proofs.lemmas.Int.{ints, to_z-of_z}
use mir.Val.{SFits}
use mir.Syntax.{w64}
use Rattle.qc_model.specs.Domains.{values_left}
use Rattle.box_laws.proofs.Emptying.{none_below}
use Rattle.check_box.proofs.remains.reaches_down.Goals as goal

below : (m hi l : ℤ) → m ≡ l → int_le m hi ≡ false → hi <ℤ l
below m hi l e h = grind (arith, ints)

pub returns : goal.returns
returns c =
    let hi_fits : SFits w64 c.args.hi = search rules in
    let m_fits : SFits w64 c.min.result = search rules in
    let vs = values_left c.args.store.now.box c.args.x.0 in
    simp to_z-of_z (λ h lo. none_below lo c.args.hi vs (below c.min.result c.args.hi _ c.min.ensures h))
