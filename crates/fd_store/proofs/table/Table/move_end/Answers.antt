use Rattle.std.proofs.Common.{◌≡◌, ◌-◌, ◌∙◌, ◌++◌, ◌∷◌, [], List, ap, set, refl, arith}
use Rattle.fd_store.specs.declared.table.Cell.{Cell}
use Rattle.fd_store.specs.declared.table.Change.{Change}
use Rattle.fd_store.proofs.Cells.{recorded_cell}
use Rattle.fd_store.proofs.EndMoves.{takes_end, left_is}
use Rattle.fd_store.proofs.table.Table.move_end.Goals as goal

pub returns-clause-takes : goal.returns-clause-takes
returns-clause-takes c =
    let q = c.requires in
    let r = c.record.ensures in
    let t = c.args.self.now in
    let kept : c.index_mut-kept.result.now ≡ c.args.cell = c.index_mut-kept.ensures.value ∙ recorded_cell t.cells.items c.args.x c.args.cell _ q.var q.at in
    takes_end t _ c.args.x c.args.cell c.args.a q.sound q.var q.at q.right q.few q.dense q.low q.high refl
    (ap (λ (k : Cell). set t.cells.items c.args.x (record k { end = c.args.a; size = c.args.a - c.args.cell.first })) kept)
    (r.items ∙ ap (λ (k : Cell). let more : List Change = record { bits = 0; word = 18446744073709551615; var = c.args.x; cell = k } ∷ [] in t.trail.items ++ more) kept) r.spare

pub returns-clause-some : goal.returns-clause-some
returns-clause-some c =
    let q = c.requires in
    let t = c.args.self.now in
    let left = left_is t.words.items t.cells.items _ c.record.new.trail.items c.args.x (record c.index_mut-kept.result.now { end = c.args.a; size = c.args.a - c.args.cell.first }) (returns-clause-takes c).sound q.var refl in
    omega (arith, left, q.low)
