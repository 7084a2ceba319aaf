use Rattle.std.proofs.Common.{sym}
use Rattle.fd_store.proofs.Steps.{size_is}
use Rattle.fd_store.proofs.table.Table.size.Goals as goal

pub returns : goal.returns
returns c =
    let t = c.args.self.now in
    let k = c.cell.ensures in
    sym (size_is t.words.items t.cells.items c.args.x c.cell.result c.requires.var k.at k.right)
