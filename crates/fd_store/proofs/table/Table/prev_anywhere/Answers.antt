use Rattle.std.proofs.Common.{◌≡◌, ◌-◌, ◌*◌, ◌∙◌, sym, ap, rules, Some}
use Rattle.std.specs.Prelude.{pos, ◌+ℤ◌}
use Rattle.std.proofs.lemmas.Int.{to_z-of_z}
use mir.Val.{SFits}
use mir.Syntax.{w64}
use Rattle.fd_store.specs.Places.{is_set}
use Rattle.fd_store.proofs.Cells.{base_fits}
use Rattle.fd_store.proofs.Nexts.{prev_found, prev_none}
use Rattle.fd_store.proofs.table.Table.prev_anywhere.Goals as goal

pub returns-then-e-cell : goal.returns-then-e-cell
returns-then-e-cell c =
    let t = c.args.self.now in
    let k = c.cell-cell.ensures in
    let fits : SFits w64 c.cell-cell.result.base = base_fits t.words.items c.cell-cell.result k.right in
    let v_fits : SFits w64 c.args.v = search rules in
    prev_none t c.args.x c.cell-cell.result c.args.v c.end_of-e.result c.requires.var k.at c.if-e-cell.true (simp to_z-of_z at c.end_of-e.ensures.places)

pub returns : goal.returns
returns c =
    let t = c.args.self.now in
    let k = c.cell-cell.ensures in
    let n = c.end_of_set-end.ensures in
    let fits : SFits w64 c.cell-cell.result.base = base_fits t.words.items c.cell-cell.result k.right in
    let v_fits : SFits w64 c.args.v = search rules in
    let r_fits : SFits w64 c.value_at.result = search rules in
    let value : c.value_at.result ≡ c.cell-cell.result.base +ℤ pos (c.end_of_set-end.result - 1 - 64 * c.cell-cell.result.start) = simp to_z-of_z at c.value_at.ensures in
    let found = prev_found t c.args.x c.cell-cell.result c.args.v c.end_of-e.result c.end_of_set-end.result c.requires.var k.at k.right c.end_of-e.ensures.most
    (simp to_z-of_z at c.end_of-e.ensures.places) n.from n.below (sym (ap (λ ws. is_set ws (c.end_of_set-end.result - 1)) c.as_slice.ensures.value) ∙ n.found)
    (λ p h l. sym (ap (λ ws. is_set ws p) c.as_slice.ensures.value) ∙ n.none p h l) in
    simp to_z-of_z (ap Some value ∙ found)
