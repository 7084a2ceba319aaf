use Rattle.std.proofs.Common.{◌≡◌, ◌*◌, ◌+◌, ◌∙◌, inl, inr, ap, rules}
use Rattle.std.specs.Prelude.{pos, ◌+ℤ◌}
use Rattle.std.proofs.lemmas.Int.{to_z-of_z}
use mir.Val.{SFits}
use mir.Syntax.{w64}
use Rattle.fd_store.specs.Places.{is_set}
use Rattle.fd_store.proofs.Cells.{base_fits}
use Rattle.fd_store.proofs.Reading.{has_inside, has_outside, below_first, above_last, from_first, before_end}
use Rattle.fd_store.proofs.table.Table.has.Goals as goal

pub returns-then-v-value_at : goal.returns-then-v-value_at
returns-then-v-value_at c =
    let t = c.args.self.now in
    let k = c.cell-cell.ensures in
    let fits : SFits w64 c.cell-cell.result.base = base_fits t.words.items c.cell-cell.result k.right in
    let v_fits : SFits w64 c.args.v = search rules in
    let value : c.value_at.result ≡ c.cell-cell.result.base +ℤ pos c.cell-cell.result.first = simp to_z-of_z at c.value_at.ensures in
    let fits2 : SFits w64 c.value_at.result = search rules in
    let out = below_first c.args.v c.value_at.result _ (simp to_z-of_z at c.if-v-value_at.true) value in
    has_outside t c.args.x c.cell-cell.result c.args.v c.requires.var k.at (inl out)

pub returns-then-v-value_at-2 : goal.returns-then-v-value_at-2
returns-then-v-value_at-2 c =
    let t = c.args.self.now in
    let k = c.cell-cell.ensures in
    let fits : SFits w64 c.cell-cell.result.base = base_fits t.words.items c.cell-cell.result k.right in
    let v_fits : SFits w64 c.args.v = search rules in
    let value : c.value_at-2.result ≡ c.cell-cell.result.base +ℤ pos c.cell-cell.result.end = simp to_z-of_z at c.value_at-2.ensures in
    let fits2 : SFits w64 c.value_at-2.result = search rules in
    let out = above_last c.args.v c.value_at-2.result _ (simp to_z-of_z at c.if-v-value_at-2.true) value in
    has_outside t c.args.x c.cell-cell.result c.args.v c.requires.var k.at (inr out)

pub returns : goal.returns
returns c =
    let t = c.args.self.now in
    let k = c.cell-cell.ensures in
    let fits : SFits w64 c.cell-cell.result.base = base_fits t.words.items c.cell-cell.result k.right in
    let v_fits : SFits w64 c.args.v = search rules in
    let at : c.args.v ≡ c.cell-cell.result.base +ℤ pos c.offset_of-k.result = simp to_z-of_z at c.offset_of-k.ensures in
    let first : c.value_at.result ≡ c.cell-cell.result.base +ℤ pos c.cell-cell.result.first = simp to_z-of_z at c.value_at.ensures in
    let end : c.value_at-2.result ≡ c.cell-cell.result.base +ℤ pos c.cell-cell.result.end = simp to_z-of_z at c.value_at-2.ensures in
    let fits2 : SFits w64 c.value_at.result = search rules in
    let fits3 : SFits w64 c.value_at-2.result = search rules in
    let low = from_first c.cell-cell.result.base c.args.v c.value_at.result c.cell-cell.result.first c.offset_of-k.result (simp to_z-of_z at c.if-v-value_at.false) first at in
    let high = before_end c.cell-cell.result.base c.args.v c.value_at-2.result c.cell-cell.result.end c.offset_of-k.result (simp to_z-of_z at c.if-v-value_at-2.false) end at in
    c.has_place.ensures
    ∙ (ap (λ ws. is_set ws (64 * c.cell-cell.result.start + c.offset_of-k.result)) c.as_slice.ensures.value
    ∙ has_inside t c.args.x c.cell-cell.result c.args.v c.offset_of-k.result c.requires.var k.at k.right at low high)
