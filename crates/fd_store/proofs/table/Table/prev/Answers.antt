use Rattle.std.proofs.Common.{◌≡◌, ◌∙◌, ap, rules, arith}
use Rattle.std.specs.Prelude.{pos, ◌+ℤ◌, ◌-ℤ◌}
use Rattle.std.specs.Int.{int_min}
use Rattle.std.proofs.lemmas.Int.{ints, to_z-of_z}
use mir.Val.{SFits}
use mir.Syntax.{w64}
use Rattle.fd_store.proofs.Cells.{base_fits}
use Rattle.fd_store.proofs.Nexts.{prev_dense, prev_past}
use Rattle.fd_store.proofs.Reading.{above_last, not_above}
use Rattle.fd_store.proofs.table.Table.prev.Goals as goal

pub returns-then-prev-value_at : goal.returns-then-prev-value_at
returns-then-prev-value_at c =
    let t = c.args.self.now in
    let k = c.cell-cell.ensures in
    let cell = c.cell-cell.result in
    let fits : SFits w64 c.cell-cell.result.base = base_fits t.words.items cell k.right in
    let v_fits : SFits w64 c.args.v = search rules in
    let first_fits : SFits w64 c.value_at.result = search rules in
    let second_fits : SFits w64 c.value_at-2.result = search rules in
    let prev_fits : SFits w64 c.min-prev.result = search rules in
    let last_fits : SFits w64 (c.value_at.result -ℤ pos 1) = omega (arith, ints) in
    let past : c.value_at.result ≡ cell.base +ℤ pos cell.end = simp to_z-of_z at c.value_at.ensures in
    let least : c.value_at-2.result ≡ cell.base +ℤ pos cell.first = simp to_z-of_z at c.value_at-2.ensures in
    let prev = (simp to_z-of_z at c.min-prev.ensures.value) ∙ ap (λ r. int_min c.args.v (r -ℤ pos 1)) past in
    let found = prev_dense t c.args.x cell c.args.v c.min-prev.result c.requires.var k.at k.right (c.has_no_gap.ensures.dense c.if-not-has_no_gap.false) prev
    (above_last c.min-prev.result c.value_at-2.result _ (simp to_z-of_z at c.if-prev-value_at.true) least) in
    simp to_z-of_z found

pub returns-else-prev-value_at : goal.returns-else-prev-value_at
returns-else-prev-value_at c =
    let t = c.args.self.now in
    let k = c.cell-cell.ensures in
    let cell = c.cell-cell.result in
    let fits : SFits w64 c.cell-cell.result.base = base_fits t.words.items cell k.right in
    let v_fits : SFits w64 c.args.v = search rules in
    let first_fits : SFits w64 c.value_at.result = search rules in
    let second_fits : SFits w64 c.value_at-2.result = search rules in
    let prev_fits : SFits w64 c.min-prev.result = search rules in
    let last_fits : SFits w64 (c.value_at.result -ℤ pos 1) = omega (arith, ints) in
    let past : c.value_at.result ≡ cell.base +ℤ pos cell.end = simp to_z-of_z at c.value_at.ensures in
    let least : c.value_at-2.result ≡ cell.base +ℤ pos cell.first = simp to_z-of_z at c.value_at-2.ensures in
    let prev = (simp to_z-of_z at c.min-prev.ensures.value) ∙ ap (λ r. int_min c.args.v (r -ℤ pos 1)) past in
    prev_past t c.args.x cell c.args.v c.min-prev.result c.requires.var k.at prev (not_above c.min-prev.result c.value_at-2.result _ (simp to_z-of_z at c.if-prev-value_at.false) least)
