use Rattle.std.proofs.Common.{◌≡◌, ◌∙◌, ap, rules}
use Rattle.std.proofs.lemmas.Int.{to_z-of_z}
use mir.Val.{SFits}
use mir.Syntax.{w64}
use Rattle.qc_model.specs.Domains.{box_within}
use Rattle.qc_model.specs.Refuted.{refuted_by}
use Rattle.prop_compare.proofs.Settled.{cut_kept, cut_place}
use Rattle.prop_compare.proofs.untold.can_not_tell.Goals as goal

pub refutes_in-requires-clause-x : goal.refutes_in-requires-clause-x
refutes_in-requires-clause-x c = cut_place c.args.store.now.box c.args.x c.args.told c.truth_cut-cut.result c.requires.both c.truth_cut-cut.ensures

pub returns : goal.returns
returns c =
    let cut = c.truth_cut-cut.result in
    let box = c.args.store.now.box in
    let lo_fits : SFits w64 cut.lo = search rules in
    let hi_fits : SFits w64 cut.hi = search rules in
    let asked : c.refutes_in.result ≡ refuted_by c.args.rule.now (box_within box cut.x.0 cut.lo cut.hi) = simp to_z-of_z at c.refutes_in.ensures in
    asked ∙ ap (refuted_by c.args.rule.now) (cut_kept box c.args.x c.args.told cut c.requires.both c.truth_cut-cut.ensures)
