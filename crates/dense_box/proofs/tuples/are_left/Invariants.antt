use Rattle.std.proofs.Common.{◌≡◌, ◌+◌, take, drop}
use Rattle.dense_tree.specs.Tuples.{are_of}
use Rattle.dense_box.proofs.tuples.are_left.Given as goal

abbrev pub invariant-loop-k : goal.invariant-loop-k
invariant-loop-k l =
    are_of (drop (l.from + l.k) (take l.stop l.store.box)) (drop l.k l.values)
    ≡ are_of (drop l.from (take l.stop l.store.box)) l.values
