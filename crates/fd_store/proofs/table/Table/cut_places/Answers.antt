use Rattle.std.proofs.Math.Nat.{le_refl}
use Rattle.fd_store.proofs.AtEnds.{takes_ends, some_spare, words_spare}
use Rattle.fd_store.proofs.table.Table.cut_places.Goals as goal

pub clear-requires-clause-room : goal.clear-requires-clause-room
clear-requires-clause-room c = words_spare c.args.a c.args.e _ c.requires.order c.requires.room

pub lower-requires-clause-room : goal.lower-requires-clause-room
lower-requires-clause-room c = some_spare c.args.a c.args.e _ c.requires.room

pub raise-requires-clause-room : goal.raise-requires-clause-room
raise-requires-clause-room c = some_spare c.args.a c.args.e _ c.requires.room

pub empty-requires-clause-room : goal.empty-requires-clause-room
empty-requires-clause-room c = some_spare c.args.a c.args.e _ c.requires.room

pub returns-then-e-cell : goal.returns-then-e-cell
returns-then-e-cell c = c.clear.ensures.takes

pub returns-else-e-cell : goal.returns-else-e-cell
returns-else-e-cell c = takes_ends c.args.self.now c.lower.new.self c.args.x c.args.cell.base c.args.a c.args.e _ _ (le_refl _) (le_refl _) c.if-e-cell.false c.requires.end c.lower.ensures.takes

pub returns-then-e-cell-2 : goal.returns-then-e-cell-2
returns-then-e-cell-2 c = takes_ends c.args.self.now c.raise.new.self c.args.x c.args.cell.base c.args.a c.args.e _ _ c.requires.first c.if-a-cell.false (le_refl _) (le_refl _) c.raise.ensures.takes

pub returns-else-e-cell-2 : goal.returns-else-e-cell-2
returns-else-e-cell-2 c = takes_ends c.args.self.now c.empty.new.self c.args.x c.args.cell.base c.args.a c.args.e _ _ c.requires.first c.if-a-cell.false c.if-e-cell-2.false c.requires.end c.empty.ensures.takes
