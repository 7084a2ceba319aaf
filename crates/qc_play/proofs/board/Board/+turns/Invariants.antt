use Rattle.std.proofs.Common.{◌+◌, ◌-◌, ◌*◌, length}
use Rattle.qc_play.proofs.board.Board.+turns.Given as goal

abbrev pub decreases-go_on : goal.decreases-go_on
decreases-go_on l = 2 * (length l.self.now.problem.now.scopes - l.i) + 1

abbrev pub decreases-own_turn : goal.decreases-own_turn
decreases-own_turn l = 2 * (length l.self.now.problem.now.scopes - l.i)

abbrev pub decreases-other_turn : goal.decreases-other_turn
decreases-other_turn l = 2 * (length l.self.now.problem.now.scopes - l.i)
