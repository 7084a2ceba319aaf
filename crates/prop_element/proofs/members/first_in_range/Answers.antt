use Rattle.std.proofs.Common.{rules}
use Rattle.std.proofs.lemmas.Int.{to_z-of_z}
use mir.Val.{SFits}
use mir.Syntax.{w64}
use Rattle.qc_model.specs.Refuted.{left_to}
use Rattle.prop_element.proofs.Sets.{range_first, range_past, range_none}
use Rattle.prop_element.proofs.members.first_in_range.Goals as goal

pub returns-in-Some-clause-some : goal.returns-in-Some-clause-some
returns-in-Some-clause-some c =
    let v_fits : SFits w64 c.in-Some.v = search rules in
    let low_fits : SFits w64 c.args.low = search rules in
    let high_fits : SFits w64 c.args.high = search rules in
    let e = simp to_z-of_z at c.in-Some.ensures in
    let t = simp to_z-of_z at c.if-v-high.true in
    simp to_z-of_z (range_first (left_to c.args.store.now.box c.args.a) c.args.low c.args.high c.in-Some.v e t)

pub returns-in_default-clause-none : goal.returns-in_default-clause-none
returns-in_default-clause-none c =
    let v_fits : SFits w64 c.in-Some.v = search rules in
    let low_fits : SFits w64 c.args.low = search rules in
    let high_fits : SFits w64 c.args.high = search rules in
    let e = simp to_z-of_z at c.in-Some.ensures in
    let t = simp to_z-of_z at c.if-v-high.false in
    range_past (left_to c.args.store.now.box c.args.a) c.args.low c.args.high c.in-Some.v e t

pub returns-in_default-2-clause-none : goal.returns-in_default-2-clause-none
returns-in_default-2-clause-none c =
    let low_fits : SFits w64 c.args.low = search rules in
    let high_fits : SFits w64 c.args.high = search rules in
    let e = simp to_z-of_z at c.in_default.ensures in
    range_none (left_to c.args.store.now.box c.args.a) c.args.low c.args.high e
