use Rattle.std.proofs.Common.{rules}
use Rattle.std.proofs.lemmas.Int.{to_z-of_z}
use mir.Val.{SFits}
use mir.Syntax.{w64}
use Rattle.qc_model.specs.Refuted.{left_to}
use Rattle.prop_element.proofs.Rows.{spanned}
use Rattle.prop_element.proofs.tables.is_spanned.Goals as goal

pub returns-then-low-least : goal.returns-then-low-least
returns-then-low-least c h v f =
    let least_fits : SFits w64 c.least.result = search rules in
    let greatest_fits : SFits w64 c.greatest.result = search rules in
    let low_fits : SFits w64 c.args.low = search rules in
    let high_fits : SFits w64 c.args.high = search rules in
    spanned (left_to c.args.store.now.box c.args.item) c.args.low c.args.high c.least.result c.greatest.result v c.least.ensures c.greatest.ensures (simp to_z-of_z at c.if-low-least.true) (simp to_z-of_z at h) f
