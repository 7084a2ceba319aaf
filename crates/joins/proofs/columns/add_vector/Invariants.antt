use Rattle.std.proofs.Common.{◌≡◌, ◌++◌, map, take, drop}
use Rattle.joins.specs.Columns.{with_vector}
use Rattle.joins.proofs.columns.add_vector.Given as goal

abbrev pub invariant-loop-k : goal.invariant-loop-k
invariant-loop-k l = l.columns.items ≡ map (with_vector l.has_any l.vector) (take l.k l.fn.columns.items) ++ drop l.k l.fn.columns.items
