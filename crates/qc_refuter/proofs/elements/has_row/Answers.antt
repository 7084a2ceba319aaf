use Rattle.std.proofs.Common.{◌≡◌, true, false, length, take, map, sym, ap, ◌∙◌, arith}
use Rattle.std.specs.List.{list_any}
use Rattle.std.proofs.lemmas.List.{length-map}
use Rattle.qc_model.specs.Left.{row_fits}
use Rattle.qc_model.specs.Refuted.{left_to}
use Rattle.qc_model.proofs.Rows.{rows_end}
use Rattle.qc_refuter.specs.Met.{seen}
use Rattle.qc_refuter.proofs.Places.{row_missed, row_found}
use Rattle.qc_refuter.proofs.elements.has_row.Goals as goal

pub loop-rest-preserved : goal.loop-rest-preserved
loop-rest-preserved c =
    let ds = map (left_to (seen c.args.view.now)) c.args.items.now in
    let width = length c.args.items.now in
    let missed : row_fits ds (take width c.loop-rest.rest.now) ≡ false = cc in
    rw c.split_at.ensures.back
    (row_missed (row_fits ds) width c.loop-rest.rest.now (omega arith) (omega arith) missed ∙ c.loop-rest.invariant)

pub returns : goal.returns
returns c =
    let ds = map (left_to (seen c.args.view.now)) c.args.items.now in
    let width = length c.args.items.now in
    rw length-map (sym (sym c.loop-rest.invariant ∙ ap (λ rs. list_any (row_fits ds) rs) (rows_end width c.loop-rest.rest.now (omega arith))))

pub returns-then-is_row : goal.returns-then-is_row
returns-then-is_row c =
    let ds = map (left_to (seen c.args.view.now)) c.args.items.now in
    let width = length c.args.items.now in
    let fits : row_fits ds (take width c.loop-rest.rest.now) ≡ true = cc in
    rw length-map (sym (sym c.loop-rest.invariant ∙ row_found (row_fits ds) width c.loop-rest.rest.now (omega arith) (omega arith) fits))
