use Rattle.std.proofs.Common.{rules}
use Rattle.std.proofs.lemmas.Int.{to_z-of_z}
use mir.Val.{SFits}
use mir.Syntax.{w64}
use Rattle.qc_model.specs.Domains.{values_left}
use Rattle.lemma_reasons.proofs.Left.{ends_within}
use Rattle.lemma_reasons.proofs.literals.covers.Goals as goal

pub returns : goal.returns
returns c h =
    let d = values_left c.args.store.now.box c.args.literal.x.0 in
    let lo_fits : SFits w64 c.args.literal.lo = search rules in
    let hi_fits : SFits w64 c.args.literal.hi = search rules in
    let l_fits : SFits w64 c.min-low.result = search rules in
    let h_fits : SFits w64 c.max-high.result = search rules in
    let a = simp to_z-of_z at c.if-low-literal.false in
    let b = simp to_z-of_z at h in
    ends_within d c.args.literal.lo c.args.literal.hi c.min-low.result c.max-high.result c.min-low.ensures c.max-high.ensures a b
