use Rattle.std.proofs.Common.{◌≡◌, ◌≢◌, ◌∙◌, Bool, true, false, refl, sym, ap, rules}
use Rattle.std.specs.Prelude.{pos, ◌+ℤ◌, MatchBool}
use Rattle.std.proofs.lemmas.Int.{to_z-of_z}
use mir.Val.{SFits, to_z, of_z}
use mir.Syntax.{w64}
use Rattle.qc_model.specs.Domains.{values_left}
use Rattle.qc_model.specs.Lists.{numbers_from}
use Rattle.fd_store.specs.Takes.{box_in}
use Rattle.fd_store.proofs.Cells.{base_fits}
use Rattle.fd_store.proofs.Rows.{row_dense, row_is, row_least, row_size}
use Rattle.fd_store.proofs.table.Table.is_row.Goals as goal

pub returns-then-cell-count : goal.returns-then-cell-count
returns-then-cell-count c = λ e.
    (let t = c.args.self.now in
    let k = c.cell-cell.ensures in
    c.if-cell-count.true (row_size t c.args.x c.cell-cell.result c.args.least c.args.count c.requires.var k.at k.right e))

pub returns-then-value_at-least : goal.returns-then-value_at-least
returns-then-value_at-least c = λ e.
    (let t = c.args.self.now in
    let k = c.cell-cell.ensures in
    let fits : SFits w64 c.cell-cell.result.base = base_fits t.words.items c.cell-cell.result k.right in
    let value : c.value_at.result ≡ c.cell-cell.result.base +ℤ pos c.cell-cell.result.first = simp to_z-of_z at c.value_at.ensures in
    c.if-value_at-least.true (ap (of_z w64) (value ∙ row_least t c.args.x c.cell-cell.result c.args.least c.args.count c.requires.var k.at k.right c.requires.left e)))

by_answer : (b : Bool) (A B : Type 0) → (b ≡ true → A) → (b ≡ false → B) → MatchBool b A B
by_answer true A B f g = f refl
by_answer false A B f g = g refl

pub returns : goal.returns
returns c =
    let t = c.args.self.now in
    let k = c.cell-cell.ensures in
    let cell = c.cell-cell.result in
    let base_small : SFits w64 cell.base = base_fits t.words.items cell k.right in
    let least_small : SFits w64 c.args.least = search rules in
    let value_small : SFits w64 c.value_at.result = search rules in
    let value : c.value_at.result ≡ cell.base +ℤ pos cell.first = simp to_z-of_z at c.value_at.ensures in
    let least : c.value_at.result ≡ c.args.least = simp to_z-of_z at (ap (to_z w64) c.if-value_at-least.false) in
    by_answer c.has_no_gap.result (values_left (box_in t) c.args.x ≡ numbers_from c.args.least c.args.count) (values_left (box_in t) c.args.x ≢ numbers_from c.args.least c.args.count)
    (λ d. row_is t c.args.x cell c.args.least c.args.count c.requires.var k.at k.right c.requires.left c.if-cell-count.false (sym value ∙ least) (c.has_no_gap.ensures.dense d))
    (λ d e. c.has_no_gap.ensures.gap d (row_dense t c.args.x cell c.args.least c.args.count c.requires.var k.at k.right c.requires.left e))
