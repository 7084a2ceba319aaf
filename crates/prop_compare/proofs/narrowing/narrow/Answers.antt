use Rattle.std.proofs.Common.{rules}
use Rattle.std.proofs.lemmas.Int.{to_z-of_z}
use mir.Val.{SFits}
use mir.Syntax.{w64}
use Rattle.qc_model.specs.Refuted.{left_to}
use Rattle.prop_compare.proofs.Narrowed.{least_reach, greatest_reach, before_reach, after_reach, under_refuted, over_refuted, open_after, full_after, narrowed, grown_last, step_grown, grown_first}
use Rattle.prop_base.proofs.Prunings.{prunes_more, fits_after}
use Rattle.prop_compare.proofs.narrowing.narrow.Goals as goal

pub take_out-requires-clause-low : goal.take_out-requires-clause-low
take_out-requires-clause-low c =
    let low_fits : SFits w64 c.least-low.result = search rules in
    let box = c.args.store.now.box in
    simp to_z-of_z (least_reach (left_to box c.args.a) c.least-low.result c.requires.open c.least-low.ensures)

pub take_out-requires-clause-high : goal.take_out-requires-clause-high
take_out-requires-clause-high c =
    let u_fits : SFits w64 c.before-under.result = search rules in
    let lo_fits : SFits w64 c.args.keep.lo = search rules in
    let u = simp to_z-of_z at c.before-under.ensures in
    let n = c.requires.narrowing in
    simp to_z-of_z (before_reach c.args.keep.lo c.before-under.result n.small_low u)

pub take_out-requires-clause-refuted : goal.take_out-requires-clause-refuted
take_out-requires-clause-refuted c x q s =
    let low_fits : SFits w64 c.least-low.result = search rules in
    let u_fits : SFits w64 c.before-under.result = search rules in
    let lo_fits : SFits w64 c.args.keep.lo = search rules in
    let box = c.args.store.now.box in
    let u = simp to_z-of_z at c.before-under.ensures in
    let n = c.requires.narrowing in
    let t = simp to_z-of_z at s in
    simp to_z-of_z (under_refuted c.args.asked.rule.now box c.args.a c.args.keep.lo c.args.keep.hi c.least-low.result c.before-under.result n u x q t)

pub take_out-requires-2-clause-fits : goal.take_out-requires-2-clause-fits
take_out-requires-2-clause-fits c =
    let low_fits : SFits w64 c.least-low.result = search rules in
    let u_fits : SFits w64 c.before-under.result = search rules in
    let lo_fits : SFits w64 c.args.keep.lo = search rules in
    let box = c.args.store.now.box in
    let u = simp to_z-of_z at c.before-under.ensures in
    let n = c.requires.narrowing in
    let one = simp to_z-of_z at c.in_ok-some_under.ensures.content in
    fits_after c.args.asked c.requires.fits c.take_out.ensures.pruning (full_after c.args.asked.rule.now box c.take_out.new.store.box c.args.a c.args.keep.lo c.args.keep.hi c.least-low.result c.before-under.result n c.requires.fits.full u one)

pub take_out-requires-2-clause-open : goal.take_out-requires-2-clause-open
take_out-requires-2-clause-open c =
    let low_fits : SFits w64 c.least-low.result = search rules in
    let u_fits : SFits w64 c.before-under.result = search rules in
    let lo_fits : SFits w64 c.args.keep.lo = search rules in
    let box = c.args.store.now.box in
    let u = simp to_z-of_z at c.before-under.ensures in
    let n = c.requires.narrowing in
    let one = simp to_z-of_z at c.in_ok-some_under.ensures.content in
    open_after c.args.asked.rule.now box c.take_out.new.store.box c.args.a c.args.keep.lo c.args.keep.hi c.least-low.result c.before-under.result n c.requires.open u one

pub take_out-requires-2-clause-low : goal.take_out-requires-2-clause-low
take_out-requires-2-clause-low c =
    let o_fits : SFits w64 c.after-over.result = search rules in
    let hi_fits : SFits w64 c.args.keep.hi = search rules in
    let o = simp to_z-of_z at c.after-over.ensures in
    let n = c.requires.narrowing in
    simp to_z-of_z (after_reach c.args.keep.hi c.after-over.result n.small_high o)

pub take_out-requires-2-clause-high : goal.take_out-requires-2-clause-high
take_out-requires-2-clause-high c =
    let high_fits : SFits w64 c.greatest-high.result = search rules in
    let box = c.args.store.now.box in
    simp to_z-of_z (greatest_reach (left_to box c.args.a) c.greatest-high.result c.requires.open c.greatest-high.ensures)

pub take_out-requires-2-clause-refuted : goal.take_out-requires-2-clause-refuted
take_out-requires-2-clause-refuted c x q s =
    let low_fits : SFits w64 c.least-low.result = search rules in
    let high_fits : SFits w64 c.greatest-high.result = search rules in
    let u_fits : SFits w64 c.before-under.result = search rules in
    let o_fits : SFits w64 c.after-over.result = search rules in
    let lo_fits : SFits w64 c.args.keep.lo = search rules in
    let hi_fits : SFits w64 c.args.keep.hi = search rules in
    let box = c.args.store.now.box in
    let u = simp to_z-of_z at c.before-under.ensures in
    let o = simp to_z-of_z at c.after-over.ensures in
    let n = c.requires.narrowing in
    let one = simp to_z-of_z at c.in_ok-some_under.ensures.content in
    let t = simp to_z-of_z at s in
    simp to_z-of_z (over_refuted c.args.asked.rule.now box c.take_out.new.store.box c.args.a c.args.keep.lo c.args.keep.hi c.least-low.result c.before-under.result c.after-over.result c.greatest-high.result n c.requires.open u o one x q t)

pub returns-in_err-some_over-clause-pruning : goal.returns-in_err-some_over-clause-pruning
returns-in_err-some_over-clause-pruning c =
    prunes_more c.args.asked c.take_out.ensures.pruning c.take_out-2.ensures.pruning

pub returns-then-some_under-clause-pruning : goal.returns-then-some_under-clause-pruning
returns-then-some_under-clause-pruning c =
    prunes_more c.args.asked c.take_out.ensures.pruning c.take_out-2.ensures.pruning

pub returns-else-some_under-clause-pruning : goal.returns-else-some_under-clause-pruning
returns-else-some_under-clause-pruning c =
    prunes_more c.args.asked c.take_out.ensures.pruning c.take_out-2.ensures.pruning

pub returns-then-some_under-clause-content : goal.returns-then-some_under-clause-content
returns-then-some_under-clause-content c =
    let low_fits : SFits w64 c.least-low.result = search rules in
    let high_fits : SFits w64 c.greatest-high.result = search rules in
    let u_fits : SFits w64 c.before-under.result = search rules in
    let o_fits : SFits w64 c.after-over.result = search rules in
    let lo_fits : SFits w64 c.args.keep.lo = search rules in
    let hi_fits : SFits w64 c.args.keep.hi = search rules in
    let box = c.args.store.now.box in
    let u = simp to_z-of_z at c.before-under.ensures in
    let o = simp to_z-of_z at c.after-over.ensures in
    let n = c.requires.narrowing in
    let one = simp to_z-of_z at c.in_ok-some_under.ensures.content in
    let two = simp to_z-of_z at c.in_ok-some_over.ensures.content in
    narrowed c.args.asked.rule.now box c.take_out.new.store.box c.take_out-2.new.store.box c.args.a c.args.keep.lo c.args.keep.hi c.least-low.result c.before-under.result c.after-over.result c.greatest-high.result n c.requires.open u o c.least-low.ensures c.greatest-high.ensures one two

pub returns-else-some_under-clause-content : goal.returns-else-some_under-clause-content
returns-else-some_under-clause-content c =
    let low_fits : SFits w64 c.least-low.result = search rules in
    let high_fits : SFits w64 c.greatest-high.result = search rules in
    let u_fits : SFits w64 c.before-under.result = search rules in
    let o_fits : SFits w64 c.after-over.result = search rules in
    let lo_fits : SFits w64 c.args.keep.lo = search rules in
    let hi_fits : SFits w64 c.args.keep.hi = search rules in
    let box = c.args.store.now.box in
    let u = simp to_z-of_z at c.before-under.ensures in
    let o = simp to_z-of_z at c.after-over.ensures in
    let n = c.requires.narrowing in
    let one = simp to_z-of_z at c.in_ok-some_under.ensures.content in
    let two = simp to_z-of_z at c.in_ok-some_over.ensures.content in
    narrowed c.args.asked.rule.now box c.take_out.new.store.box c.take_out-2.new.store.box c.args.a c.args.keep.lo c.args.keep.hi c.least-low.result c.before-under.result c.after-over.result c.greatest-high.result n c.requires.open u o c.least-low.ensures c.greatest-high.ensures one two

pub returns-else-some_under-clause-grown : goal.returns-else-some_under-clause-grown
returns-else-some_under-clause-grown c =
    let f = c.in_ok-some_under.ensures.grown in
    let s = c.in_ok-some_over.ensures.grown in
    grown_last c.in_ok-some_over.some_over c.args.steps.now c.take_out.new.steps c.take_out-2.new.steps (f.1 c.if-some_under.false)
    (step_grown c.in_ok-some_over.some_over c.take_out.new.steps c.take_out-2.new.steps s.0) s.1

pub returns-then-some_under-clause-grown : goal.returns-then-some_under-clause-grown
returns-then-some_under-clause-grown c =
    let f = c.in_ok-some_under.ensures.grown in
    let s = c.in_ok-some_over.ensures.grown in
    grown_first c.in_ok-some_under.some_under c.in_ok-some_over.some_over c.args.steps.now c.take_out.new.steps c.take_out-2.new.steps c.if-some_under.true (f.0 c.if-some_under.true) s.0 s.1
