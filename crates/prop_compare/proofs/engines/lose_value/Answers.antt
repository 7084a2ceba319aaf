use Rattle.std.proofs.Common.{ap, rules, arith, length}
use Rattle.std.proofs.lemmas.Int.{to_z-of_z}
use mir.Val.{SFits}
use mir.Syntax.{w64}
use Rattle.qc_model.specs.Refuted.{left_to}
use Rattle.prop_compare.proofs.Losing.{value_refuted, lost_full, lost_keeps}
use Rattle.prop_compare.proofs.Narrowed.{least_reach, fixed_reach}
use Rattle.prop_compare.proofs.engines.lose_value.Goals as goal

pub take_out-requires-clause-low : goal.take_out-requires-clause-low
take_out-requires-clause-low c =
    let v_fits : SFits w64 c.least-v.result = search rules in
    simp to_z-of_z (least_reach (left_to c.args.store.now.box c.args.a) c.least-v.result c.requires.pair.open_first c.least-v.ensures)

pub take_out-requires-clause-high : goal.take_out-requires-clause-high
take_out-requires-clause-high c =
    let v_fits : SFits w64 c.least-v.result = search rules in
    simp to_z-of_z (fixed_reach (left_to c.args.store.now.box c.args.a) c.least-v.result c.requires.pair.open_first c.least-v.ensures)

pub take_out-requires-clause-refuted : goal.take_out-requires-clause-refuted
take_out-requires-clause-refuted c x q s =
    let v_fits : SFits w64 c.least-v.result = search rules in
    let t = simp to_z-of_z at s in
    simp to_z-of_z (value_refuted c.args.asked.problem.now c.args.asked.rule.now c.args.store.now.box c.args.a c.args.b c.least-v.result c.requires.pair c.requires.tested c.requires.fixed c.least-v.ensures x q t)

pub returns-then-taken-clause-answer : goal.returns-then-taken-clause-answer
returns-then-taken-clause-answer c =
    let v_fits : SFits w64 c.least-v.result = search rules in
    let g = c.args.asked.problem.now in
    let r = c.args.asked.rule.now in
    let box = c.args.store.now.box in
    let new = simp to_z-of_z at c.in_ok-taken.ensures.content in
    let grown = c.in_ok-taken.ensures.grown.0 c.if-taken.true in (
      lost_full g r box c.take_out.new.store.box c.args.a c.args.b c.least-v.result c.requires.pair c.requires.fits.full c.requires.fixed c.least-v.ensures c.requires.differ new,
      λ e. omega (arith, grown, ap length e),
      lost_keeps g r box c.take_out.new.store.box c.args.a c.args.b c.least-v.result c.requires.pair c.requires.tested c.requires.fixed c.least-v.ensures c.requires.differ new,
    )

pub returns-else-taken-clause-answer : goal.returns-else-taken-clause-answer
returns-else-taken-clause-answer c =
    let v_fits : SFits w64 c.least-v.result = search rules in
    let g = c.args.asked.problem.now in
    let r = c.args.asked.rule.now in
    let box = c.args.store.now.box in
    let new = simp to_z-of_z at c.in_ok-taken.ensures.content in (
      lost_full g r box c.take_out.new.store.box c.args.a c.args.b c.least-v.result c.requires.pair c.requires.fits.full c.requires.fixed c.least-v.ensures c.requires.differ new,
      c.in_ok-taken.ensures.grown.1 c.if-taken.false,
      lost_keeps g r box c.take_out.new.store.box c.args.a c.args.b c.least-v.result c.requires.pair c.requires.tested c.requires.fixed c.least-v.ensures c.requires.differ new,
    )
