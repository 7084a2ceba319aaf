use Rattle.std.proofs.Common.{◌∙◌, sym, ap, rules}
use Rattle.std.proofs.lemmas.Int.{to_z-of_z}
use Rattle.std.proofs.lemmas.Option.{same_Some}
use mir.Val.{SFits}
use mir.Syntax.{w64}
use Rattle.qc_model.specs.Domains.{box_within}
use Rattle.qc_model.specs.Refuted.{refuted_by}
use Rattle.qc_refuter.proofs.table.refutes_in.Goals as goal

pub rule_refutes_in-requires-clause-asked : goal.rule_refutes_in-requires-clause-asked
rule_refutes_in-requires-clause-asked c = c.requires.asked c.constraint.result.now c.constraint.ensures

pub returns : goal.returns
returns c rule e =
    let lo_fits : SFits w64 c.args.lo = search rules in
    let hi_fits : SFits w64 c.args.hi = search rules in
    let r = simp to_z-of_z at c.rule_refutes_in.ensures in
    r ∙ ap (λ z. refuted_by z (box_within c.args.store.now.box c.args.x.0 c.args.lo c.args.hi)) (same_Some c.constraint.result.now rule (sym c.constraint.ensures ∙ e))
