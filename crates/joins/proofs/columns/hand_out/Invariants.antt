use Rattle.std.proofs.Common.{◌≡◌, take}
use Rattle.joins.specs.Columns.{values_by}
use Rattle.joins.proofs.columns.hand_out.Given as goal

abbrev pub invariant-loop-column : goal.invariant-loop-column
invariant-loop-column l = (l.out.list.items ≡ values_by l.values (take l.column-index l.columns)) × (l.out.list.capacity ≡ l.fn.out.list.capacity)
