use Rattle.fd_store.proofs.Reading.{cell_ascends, cell_numbers}
use Rattle.fd_store.proofs.table.Table.known.Goals as goal

pub returns-clause-ascending : goal.returns-clause-ascending
returns-clause-ascending c = cell_ascends c.args.self.now c.args.x c.cell-cell.result c.requires.var c.cell-cell.ensures.at

pub returns-clause-numbers : goal.returns-clause-numbers
returns-clause-numbers c = cell_numbers c.args.self.now c.args.x c.cell-cell.result c.requires.var c.cell-cell.ensures.at c.cell-cell.ensures.right
