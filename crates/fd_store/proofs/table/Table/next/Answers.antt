use Rattle.std.proofs.Common.{◌≡◌, ◌∙◌, ap, rules}
use Rattle.std.specs.Prelude.{pos, ◌+ℤ◌}
use Rattle.std.specs.Int.{int_max}
use Rattle.std.proofs.lemmas.Int.{to_z-of_z}
use mir.Val.{SFits}
use mir.Syntax.{w64}
use Rattle.fd_store.proofs.Cells.{base_fits}
use Rattle.fd_store.proofs.Nexts.{next_dense, next_past}
use Rattle.fd_store.proofs.Reading.{below_first, not_below}
use Rattle.fd_store.proofs.table.Table.next.Goals as goal

pub returns-then-next-value_at : goal.returns-then-next-value_at
returns-then-next-value_at c =
    let t = c.args.self.now in
    let k = c.cell-cell.ensures in
    let cell = c.cell-cell.result in
    let fits : SFits w64 c.cell-cell.result.base = base_fits t.words.items cell k.right in
    let v_fits : SFits w64 c.args.v = search rules in
    let first_fits : SFits w64 c.value_at.result = search rules in
    let second_fits : SFits w64 c.value_at-2.result = search rules in
    let next_fits : SFits w64 c.max-next.result = search rules in
    let least : c.value_at.result ≡ cell.base +ℤ pos cell.first = simp to_z-of_z at c.value_at.ensures in
    let past : c.value_at-2.result ≡ cell.base +ℤ pos cell.end = simp to_z-of_z at c.value_at-2.ensures in
    let next = (simp to_z-of_z at c.max-next.ensures.value) ∙ ap (int_max c.args.v) least in
    let found = next_dense t c.args.x cell c.args.v c.max-next.result c.requires.var k.at k.right (c.has_no_gap.ensures.dense c.if-not-has_no_gap.false) next
    (below_first c.max-next.result c.value_at-2.result _ (simp to_z-of_z at c.if-next-value_at.true) past) in
    simp to_z-of_z found

pub returns-else-next-value_at : goal.returns-else-next-value_at
returns-else-next-value_at c =
    let t = c.args.self.now in
    let k = c.cell-cell.ensures in
    let cell = c.cell-cell.result in
    let fits : SFits w64 c.cell-cell.result.base = base_fits t.words.items cell k.right in
    let v_fits : SFits w64 c.args.v = search rules in
    let first_fits : SFits w64 c.value_at.result = search rules in
    let second_fits : SFits w64 c.value_at-2.result = search rules in
    let next_fits : SFits w64 c.max-next.result = search rules in
    let least : c.value_at.result ≡ cell.base +ℤ pos cell.first = simp to_z-of_z at c.value_at.ensures in
    let past : c.value_at-2.result ≡ cell.base +ℤ pos cell.end = simp to_z-of_z at c.value_at-2.ensures in
    let next = (simp to_z-of_z at c.max-next.ensures.value) ∙ ap (int_max c.args.v) least in
    next_past t c.args.x cell c.args.v c.max-next.result c.requires.var k.at next (not_below c.max-next.result c.value_at-2.result _ (simp to_z-of_z at c.if-next-value_at.false) past)
