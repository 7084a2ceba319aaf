use Rattle.std.proofs.Common.{ℕ, ◌<◌, ◌≤◌, ◌*◌}
use Rattle.std.specs.Prelude.{unsigned_abs}
use Rattle.joins.specs.Columns.{number_at}
use Rattle.dense_nest.proofs.basics.size_of.Given as goal

abbrev pub invariant-loop-n : goal.invariant-loop-n
invariant-loop-n l = (1 ≤ l.most) × ((k : ℕ) → k < l.n-index → unsigned_abs (number_at k l.fn.vector) ≤ l.most * 1000000000)
