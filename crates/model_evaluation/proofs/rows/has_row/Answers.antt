use Rattle.std.proofs.Common.{◌≡◌, false, length, take, sym, ap, ◌∙◌, arith}
use Rattle.std.specs.List.{list_any}
use Rattle.std.proofs.lemmas.List.{length-map}
use Rattle.model_evaluation.specs.Evaluation.{item_values}
use Rattle.qc_model.specs.Lists.{same_values}
use Rattle.qc_model.proofs.Rows.{rows_end}
use Rattle.model_evaluation.proofs.Tables.{row_missed}
use Rattle.model_evaluation.proofs.rows.has_row.Goals as goal

pub loop-rest-preserved : goal.loop-rest-preserved
loop-rest-preserved c =
    let vs = item_values c.args.values.now c.args.items.now in
    let width = length c.args.items.now in
    let missed : same_values vs (take width c.loop-rest.rest.now) ≡ false = cc in
    rw c.split_at.ensures.back
    (row_missed vs width c.loop-rest.rest.now (omega arith) (omega arith) missed ∙ c.loop-rest.invariant)

pub returns : goal.returns
returns c =
    let vs = item_values c.args.values.now c.args.items.now in
    let width = length c.args.items.now in
    rw length-map (sym (sym c.loop-rest.invariant ∙ ap (λ rs. list_any (same_values vs) rs) (rows_end width c.loop-rest.rest.now (omega arith))))
