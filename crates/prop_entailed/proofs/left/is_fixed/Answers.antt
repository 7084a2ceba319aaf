use Rattle.std.proofs.Common.{rules, ap, ◌∙◌}
use Rattle.std.specs.Prelude.{int_le}
use Rattle.std.proofs.lemmas.Int.{to_z-of_z}
use mir.Val.{SFits}
use mir.Syntax.{w64}
use Rattle.qc_model.specs.Domains.{greatest_value}
use Rattle.qc_model.specs.Refuted.{left_to}
use Rattle.qc_refuter.proofs.Seen.{single_by_ends}
use Rattle.prop_entailed.proofs.left.is_fixed.Goals as goal

pub returns : goal.returns
returns c =
    let d = left_to c.args.store.now.box c.args.arg in
    let low_fits : SFits w64 c.least-low.result = search rules in
    let high_fits : SFits w64 c.greatest-high.result = search rules in
    simp to_z-of_z
    (ap (λ z. int_le z c.least-low.result) c.greatest-high.ensures ∙ (ap (int_le (greatest_value d)) c.least-low.ensures ∙ single_by_ends d c.requires))
