use Rattle.std.proofs.Common.{◌≡◌, drop}
use Rattle.dense_tree.specs.Alike.{same_left}
use Rattle.dense_alike.proofs.positions.Positions.same_left.Given as goal

abbrev pub invariant-loop-k : goal.invariant-loop-k
invariant-loop-k l = same_left (drop l.k l.store.box) (drop l.k l.kept) ≡ same_left (drop l.fn.first l.store.box) (drop l.fn.first l.kept)
