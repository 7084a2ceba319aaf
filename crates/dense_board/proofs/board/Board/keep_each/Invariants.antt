use Rattle.std.proofs.Common.{◌≡◌}
use Rattle.dense_board.proofs.board.Board.keep_each.Given as goal

abbrev pub invariant-loop-x : goal.invariant-loop-x
invariant-loop-x l = l.self.levels ≡ l.initial.self.levels
