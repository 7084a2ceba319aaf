use Rattle.std.proofs.Common.{rules}
use Rattle.std.proofs.lemmas.Int.{to_z-of_z}
use mir.Val.{SFits}
use mir.Syntax.{w64}
use Rattle.prop_element.proofs.Keeping.{cut_below, cut_above}
use Rattle.prop_element.proofs.hulls.hull_cut.Goals as goal

pub returns-then-low-lo-clause-some : goal.returns-then-low-lo-clause-some
returns-then-low-lo-clause-some c =
    let low_fits : SFits w64 c.min-low.result = search rules in
    let lo_fits : SFits w64 c.args.lo = search rules in
    let last_fits : SFits w64 c.before-last.result = search rules in
    let t = simp to_z-of_z at c.if-low-lo.true in
    let e = simp to_z-of_z at c.before-last.ensures in
    simp to_z-of_z (cut_below c.args.rule.now c.args.store.now.box c.args.x c.args.lo c.args.hi c.min-low.result c.before-last.result c.requires.place c.requires.open c.requires.hull c.min-low.ensures e t)

pub returns-then-hi-high-clause-some : goal.returns-then-hi-high-clause-some
returns-then-hi-high-clause-some c =
    let high_fits : SFits w64 c.max-high.result = search rules in
    let hi_fits : SFits w64 c.args.hi = search rules in
    let next_fits : SFits w64 c.after-next.result = search rules in
    let t = simp to_z-of_z at c.if-hi-high.true in
    let e = simp to_z-of_z at c.after-next.ensures in
    simp to_z-of_z (cut_above c.args.rule.now c.args.store.now.box c.args.x c.args.lo c.args.hi c.after-next.result c.max-high.result c.requires.place c.requires.open c.requires.hull c.max-high.ensures e t)
