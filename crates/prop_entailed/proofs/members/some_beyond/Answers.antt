use Rattle.std.proofs.Common.{rules}
use Rattle.std.proofs.lemmas.Int.{to_z-of_z}
use mir.Val.{SFits}
use mir.Syntax.{w64}
use Rattle.qc_model.specs.Refuted.{left_to}
use Rattle.qc_refuter.proofs.Listed.{beyond_low, beyond_high}
use Rattle.prop_entailed.proofs.members.some_beyond.Goals as goal

pub returns-then-least-low : goal.returns-then-least-low
returns-then-least-low c =
    let low_fits : SFits w64 c.args.low = search rules in
    let l_fits : SFits w64 c.least.result = search rules in
    let t = simp to_z-of_z at c.if-least-low.true in
    simp to_z-of_z (beyond_low (left_to c.args.store.now.box c.args.arg) c.args.low c.args.high c.least.result c.requires c.least.ensures t)

pub returns-else-least-low : goal.returns-else-least-low
returns-else-least-low c =
    let low_fits : SFits w64 c.args.low = search rules in
    let high_fits : SFits w64 c.args.high = search rules in
    let l_fits : SFits w64 c.least.result = search rules in
    let g_fits : SFits w64 c.greatest.result = search rules in
    let t = simp to_z-of_z at c.if-least-low.false in
    simp to_z-of_z (beyond_high (left_to c.args.store.now.box c.args.arg) c.args.low c.args.high c.least.result c.greatest.result c.requires c.least.ensures t c.greatest.ensures)
