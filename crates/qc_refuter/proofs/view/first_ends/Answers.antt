use Rattle.std.proofs.Common.{ap, sym, ◌∙◌, rules}
use Rattle.std.proofs.lemmas.Int.{to_z-of_z}
use mir.Val.{SFits}
use mir.Syntax.{w64}
use Rattle.qc_model.specs.Domains.{values_left, least_value, greatest_value}
use Rattle.qc_refuter.proofs.Seen.{all_within}
use Rattle.qc_refuter.proofs.view.first_ends.Goals as goal

pub returns : goal.returns
returns c = λ some.
    let low_fits : SFits w64 c.min.result = search rules in
    let high_fits : SFits w64 c.max.result = search rules in
    let kept = all_within (values_left c.args.store.now.box 0) c.known.ensures.numbers in
    simp to_z-of_z (c.min.ensures ∙ sym (ap least_value kept), c.max.ensures ∙ sym (ap greatest_value kept))
