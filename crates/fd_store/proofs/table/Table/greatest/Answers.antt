use Rattle.std.proofs.Common.{◌≡◌, ◌-◌, ◌∙◌, arith, rules}
use Rattle.std.specs.Prelude.{pos, ◌+ℤ◌}
use Rattle.std.proofs.lemmas.Int.{to_z-of_z}
use mir.Val.{SFits}
use mir.Syntax.{w64}
use Rattle.fd_store.proofs.Cells.{base_fits}
use Rattle.fd_store.proofs.Reading.{greatest_is, left_some}
use Rattle.fd_store.proofs.table.Table.greatest.Goals as goal

pub overflow_sub-cell : goal.overflow_sub-cell
overflow_sub-cell c =
    let some = left_some c.args.self.now c.args.x c.cell-cell.result c.requires.var c.cell-cell.ensures.at c.requires.left in
    omega arith

pub returns : goal.returns
returns c =
    let t = c.args.self.now in
    let k = c.cell-cell.ensures in
    let fits : SFits w64 c.cell-cell.result.base = base_fits t.words.items c.cell-cell.result k.right in
    let fits2 : SFits w64 c.value_at.result = search rules in
    let value : c.value_at.result ≡ c.cell-cell.result.base +ℤ pos (c.cell-cell.result.end - 1) = simp to_z-of_z at c.value_at.ensures in
    simp to_z-of_z (value ∙ greatest_is t c.args.x c.cell-cell.result c.requires.var k.at k.right c.requires.left)
