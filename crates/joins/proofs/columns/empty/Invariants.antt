use Rattle.std.proofs.Common.{◌≡◌, ◌++◌, map, take, drop}
use Rattle.joins.specs.Columns.{emptied}
use Rattle.joins.proofs.columns.empty.Given as goal

abbrev pub invariant-loop-k : goal.invariant-loop-k
invariant-loop-k l = l.columns.items ≡ map emptied (take l.k l.fn.columns.items) ++ drop l.k l.fn.columns.items
