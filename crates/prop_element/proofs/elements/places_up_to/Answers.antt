use Rattle.std.proofs.Common.{rules}
use Rattle.std.proofs.lemmas.Int.{to_z-of_z}
use mir.Val.{SFits}
use mir.Syntax.{w64}
use Rattle.qc_model.specs.Refuted.{left_to}
use Rattle.prop_element.proofs.Supports.{over_greatest, none_counted}
use Rattle.prop_element.proofs.elements.places_up_to.Goals as goal

pub returns-then-last-lt1-clause-none : goal.returns-then-last-lt1-clause-none
returns-then-last-lt1-clause-none c =
    let v_fits : SFits w64 c.greatest-last.result = search rules in
    let t = simp to_z-of_z at c.if-last-lt1.true in
    none_counted (left_to c.args.store.now.box c.args.a) c.greatest-last.result c.args.count c.greatest-last.ensures t

pub returns-then-k-count-clause-none : goal.returns-then-k-count-clause-none
returns-then-k-count-clause-none c =
    let v_fits : SFits w64 c.greatest-last.result = search rules in
    let p = simp to_z-of_z at c.place_of-k.ensures in
    over_greatest (left_to c.args.store.now.box c.args.a) c.greatest-last.result c.args.count c.place_of-k.result c.greatest-last.ensures p
