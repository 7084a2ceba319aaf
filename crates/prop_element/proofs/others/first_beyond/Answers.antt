use Rattle.std.proofs.Common.{rules}
use Rattle.std.proofs.lemmas.Int.{to_z-of_z}
use mir.Val.{SFits}
use mir.Syntax.{w64}
use Rattle.qc_model.specs.Refuted.{left_to}
use Rattle.prop_element.proofs.Beyond.{beyond_first, above_none, above_some}
use Rattle.prop_element.proofs.others.first_beyond.Goals as goal

pub returns-then-first-low-clause-some : goal.returns-then-first-low-clause-some
returns-then-first-low-clause-some c =
    let low_fits : SFits w64 c.args.low = search rules in
    let high_fits : SFits w64 c.args.high = search rules in
    let end_fits : SFits w64 c.least-first.result = search rules in
    let t = simp to_z-of_z at c.if-first-low.true in
    simp to_z-of_z (beyond_first (left_to c.args.store.now.box c.args.a) c.args.low c.args.high c.least-first.result c.requires.open c.least-first.ensures t)

pub returns-else-first-low-clause-none : goal.returns-else-first-low-clause-none
returns-else-first-low-clause-none c =
    let low_fits : SFits w64 c.args.low = search rules in
    let high_fits : SFits w64 c.args.high = search rules in
    let end_fits : SFits w64 c.least-first.result = search rules in
    let next_fits : SFits w64 c.after.result = search rules in
    let t = simp to_z-of_z at c.if-first-low.false in
    let e = simp to_z-of_z at c.after.ensures in
    let n = simp to_z-of_z at c.next_of.ensures in
    above_none (left_to c.args.store.now.box c.args.a) c.args.low c.args.high c.least-first.result c.after.result c.next_of.result c.least-first.ensures t e n

pub returns-else-first-low-clause-some : goal.returns-else-first-low-clause-some
returns-else-first-low-clause-some c =
    let low_fits : SFits w64 c.args.low = search rules in
    let high_fits : SFits w64 c.args.high = search rules in
    let end_fits : SFits w64 c.least-first.result = search rules in
    let next_fits : SFits w64 c.after.result = search rules in
    let t = simp to_z-of_z at c.if-first-low.false in
    let e = simp to_z-of_z at c.after.ensures in
    let n = simp to_z-of_z at c.next_of.ensures in
    above_some (left_to c.args.store.now.box c.args.a) c.args.low c.args.high c.least-first.result c.after.result c.next_of.result c.least-first.ensures t e n
