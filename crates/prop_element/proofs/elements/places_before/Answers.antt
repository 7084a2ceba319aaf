use Rattle.std.proofs.Common.{rules}
use Rattle.std.proofs.lemmas.Int.{to_z-of_z}
use mir.Val.{SFits}
use mir.Syntax.{w64}
use Rattle.qc_model.specs.Refuted.{left_to}
use Rattle.prop_element.proofs.Supports.{before_least}
use Rattle.prop_element.proofs.elements.places_before.Goals as goal

pub returns : goal.returns
returns c =
    let v_fits : SFits w64 c.least-first.result = search rules in
    let p = simp to_z-of_z at c.place_of.ensures in
    before_least (left_to c.args.store.now.box c.args.a) c.least-first.result c.place_of.result c.least-first.ensures p
