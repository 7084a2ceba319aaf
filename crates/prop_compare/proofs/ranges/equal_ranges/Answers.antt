use Rattle.std.proofs.Common.{rules}
use Rattle.std.proofs.lemmas.Int.{to_z-of_z}
use mir.Val.{SFits}
use mir.Syntax.{w64}
use Rattle.qc_model.specs.Refuted.{left_to}
use Rattle.prop_compare.proofs.Reduced.{equal_reduced}
use Rattle.prop_compare.proofs.ranges.equal_ranges.Goals as goal

pub returns-clause-some : goal.returns-clause-some
returns-clause-some c =
    let lo_fits : SFits w64 c.in-Some.lo = search rules in
    let hi_fits : SFits w64 c.in-Some-greatest_common.hi = search rules in
    let d = left_to c.args.store.now.box c.args.a in
    let e = left_to c.args.store.now.box c.args.b in
    simp to_z-of_z (equal_reduced d e c.in-Some.lo c.in-Some-greatest_common.hi c.requires.a c.requires.b c.in-Some.ensures.some c.in-Some-greatest_common.ensures.some)
