use Rattle.std.proofs.Common.{sym}
use Rattle.fd_store.proofs.Steps.{right_now}
use Rattle.fd_store.proofs.table.Table.cell.Goals as goal

pub returns-clause-right : goal.returns-clause-right
returns-clause-right c =
    let t = c.args.self.now in
    (right_now t.words.items t.cells.items t.trail.items c.requires.sound).each c.args.x _ c.requires.var (sym c.index.ensures)

pub returns-clause-few : goal.returns-clause-few
returns-clause-few c =
    let t = c.args.self.now in
    (right_now t.words.items t.cells.items t.trail.items c.requires.sound).few
