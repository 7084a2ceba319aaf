use Rattle.std.proofs.Common.{rules}
use Rattle.std.proofs.lemmas.Int.{to_z-of_z}
use mir.Val.{SFits}
use mir.Syntax.{w64}
use Rattle.qc_refuter.proofs.Ready.{within_met}
use Rattle.qc_refuter.proofs.table.rule_refutes_in.Goals as goal

pub refutes_view-requires : goal.refutes_view-requires
refutes_view-requires c =
    let lo_fits : SFits w64 c.args.lo = search rules in
    let hi_fits : SFits w64 c.args.hi = search rules in
    simp to_z-of_z (within_met c.args.problem.now c.args.rule.now c.args.store.now.box c.args.x.0 c.args.lo c.args.hi c.known.ensures.domains c.requires.asked c.requires.left)

pub returns : goal.returns
returns c =
    let lo_fits : SFits w64 c.args.lo = search rules in
    let hi_fits : SFits w64 c.args.hi = search rules in
    simp to_z-of_z at c.refutes_view.ensures
