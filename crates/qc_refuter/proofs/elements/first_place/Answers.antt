use Rattle.std.proofs.Common.{rules}
use Rattle.std.proofs.lemmas.Int.{to_z-of_z}
use mir.Val.{SFits}
use mir.Syntax.{w64}
use Rattle.qc_model.specs.Refuted.{left_to}
use Rattle.qc_refuter.specs.Met.{seen}
use Rattle.qc_refuter.proofs.Places.{place_below}
use Rattle.qc_refuter.proofs.elements.first_place.Goals as goal

pub returns-clause-missed : goal.returns-clause-missed
returns-clause-missed c j h =
    let low_fits : SFits w64 c.least-low.result = search rules in
    let over = simp to_z-of_z at c.if-low-le1.false in
    let most = simp to_z-of_z at c.min.ensures in
    place_below (left_to (seen c.args.view.now) c.args.b) c.least-low.result c.min.result c.args.count j c.least-low.ensures over most h
