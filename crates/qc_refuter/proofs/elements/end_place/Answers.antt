use Rattle.std.proofs.Common.{rules}
use Rattle.std.proofs.lemmas.Int.{to_z-of_z}
use mir.Val.{SFits}
use mir.Syntax.{w64}
use Rattle.qc_model.specs.Refuted.{left_to}
use Rattle.qc_refuter.specs.Met.{seen}
use Rattle.qc_refuter.proofs.Places.{no_place, place_above}
use Rattle.qc_refuter.proofs.elements.end_place.Goals as goal

pub returns-clause-missed : goal.returns-clause-missed
returns-clause-missed c j h l =
    let high_fits : SFits w64 c.greatest-high.result = search rules in
    let over = simp to_z-of_z at c.if-high-le0.false in
    let most = simp to_z-of_z at c.min.ensures in
    place_above (left_to (seen c.args.view.now) c.args.b) c.greatest-high.result c.min.result c.args.count j c.greatest-high.ensures over most h l

pub returns-then-high-le0-clause-missed : goal.returns-then-high-le0-clause-missed
returns-then-high-le0-clause-missed c j h l =
    let high_fits : SFits w64 c.greatest-high.result = search rules in
    let under = simp to_z-of_z at c.if-high-le0.true in
    no_place (left_to (seen c.args.view.now) c.args.b) c.greatest-high.result j c.greatest-high.ensures under
