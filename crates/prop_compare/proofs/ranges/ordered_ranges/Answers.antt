use Rattle.std.proofs.Common.{rules}
use Rattle.std.proofs.lemmas.Int.{to_z-of_z}
use mir.Val.{SFits}
use mir.Syntax.{w64}
use Rattle.qc_model.specs.Refuted.{left_to}
use Rattle.prop_compare.proofs.Reduced.{ordered_at, ordered_none, least_small, greatest_small}
use Rattle.prop_compare.proofs.ranges.ordered_ranges.Goals as goal

pub raised-floor-requires-clause-number : goal.raised-floor-requires-clause-number
raised-floor-requires-clause-number c =
    let low_fits : SFits w64 c.least-low.result = search rules in
    simp to_z-of_z (least_small (left_to c.args.store.now.box c.args.a) c.least-low.result c.requires.a c.least-low.ensures)

pub lowered-ceiling-requires-clause-number : goal.lowered-ceiling-requires-clause-number
lowered-ceiling-requires-clause-number c =
    let high_fits : SFits w64 c.greatest-high.result = search rules in
    simp to_z-of_z (greatest_small (left_to c.args.store.now.box c.args.b) c.greatest-high.result c.requires.b c.greatest-high.ensures)

pub returns-then-high-floor-clause-none : goal.returns-then-high-floor-clause-none
returns-then-high-floor-clause-none c =
    let low_fits : SFits w64 c.least-low.result = search rules in
    let high_fits : SFits w64 c.greatest-high.result = search rules in
    let gap_fits : SFits w64 c.args.gap = search rules in
    let floor_fits : SFits w64 c.raised-floor.result = search rules in
    ordered_none (left_to c.args.store.now.box c.args.a) (left_to c.args.store.now.box c.args.b) c.args.gap c.least-low.result c.greatest-high.result c.raised-floor.result c.least-low.ensures c.greatest-high.ensures
    (simp to_z-of_z at c.raised-floor.ensures) (simp to_z-of_z at c.if-high-floor.true)

pub returns-clause-some : goal.returns-clause-some
returns-clause-some c =
    let low_fits : SFits w64 c.least-low.result = search rules in
    let high_fits : SFits w64 c.greatest-high.result = search rules in
    let gap_fits : SFits w64 c.args.gap = search rules in
    let floor_fits : SFits w64 c.raised-floor.result = search rules in
    let ceiling_fits : SFits w64 c.lowered-ceiling.result = search rules in
    simp to_z-of_z
    (ordered_at (left_to c.args.store.now.box c.args.a) (left_to c.args.store.now.box c.args.b) c.args.gap c.least-low.result c.greatest-high.result c.raised-floor.result c.lowered-ceiling.result c.requires.a c.requires.b c.requires.gap c.least-low.ensures c.greatest-high.ensures
    (simp to_z-of_z at c.raised-floor.ensures) (simp to_z-of_z at c.lowered-ceiling.ensures) (simp to_z-of_z at c.if-high-floor.false))
