use Rattle.std.proofs.Common.{rules}
use Rattle.std.proofs.lemmas.Int.{to_z-of_z}
use mir.Val.{SFits}
use mir.Syntax.{w64}
use Rattle.qc_model.specs.Refuted.{left_to}
use Rattle.prop_element.proofs.Beyond.{beyond_last, below_none, below_some}
use Rattle.prop_element.proofs.others.last_beyond.Goals as goal

pub returns-then-high-last-clause-some : goal.returns-then-high-last-clause-some
returns-then-high-last-clause-some c =
    let low_fits : SFits w64 c.args.low = search rules in
    let high_fits : SFits w64 c.args.high = search rules in
    let end_fits : SFits w64 c.greatest-last.result = search rules in
    let t = simp to_z-of_z at c.if-high-last.true in
    simp to_z-of_z (beyond_last (left_to c.args.store.now.box c.args.a) c.args.low c.args.high c.greatest-last.result c.requires.open c.greatest-last.ensures t)

pub returns-else-high-last-clause-none : goal.returns-else-high-last-clause-none
returns-else-high-last-clause-none c =
    let low_fits : SFits w64 c.args.low = search rules in
    let high_fits : SFits w64 c.args.high = search rules in
    let end_fits : SFits w64 c.greatest-last.result = search rules in
    let next_fits : SFits w64 c.before-else-high-last.result = search rules in
    let t = simp to_z-of_z at c.if-high-last.false in
    let e = simp to_z-of_z at c.before-else-high-last.ensures in
    let n = simp to_z-of_z at c.previous_of.ensures in
    below_none (left_to c.args.store.now.box c.args.a) c.args.low c.args.high c.greatest-last.result c.before-else-high-last.result c.previous_of.result c.greatest-last.ensures t e n

pub returns-else-high-last-clause-some : goal.returns-else-high-last-clause-some
returns-else-high-last-clause-some c =
    let low_fits : SFits w64 c.args.low = search rules in
    let high_fits : SFits w64 c.args.high = search rules in
    let end_fits : SFits w64 c.greatest-last.result = search rules in
    let next_fits : SFits w64 c.before-else-high-last.result = search rules in
    let t = simp to_z-of_z at c.if-high-last.false in
    let e = simp to_z-of_z at c.before-else-high-last.ensures in
    let n = simp to_z-of_z at c.previous_of.ensures in
    below_some (left_to c.args.store.now.box c.args.a) c.args.low c.args.high c.greatest-last.result c.before-else-high-last.result c.previous_of.result c.greatest-last.ensures t e n
