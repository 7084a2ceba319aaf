use Rattle.std.proofs.Common.{◌+◌, ◌-◌, ◌*◌, length, pos, ◌-ℤ◌, nat_abs}
use Rattle.tell_moves.proofs.Going.{IsGone}
use Rattle.tell_moves.proofs.search.+search.Given as goal

abbrev pub decreases-list : goal.decreases-list
decreases-list l = 3 * (l.level.now.stop - length l.walk.now.values.items) + 2

abbrev pub decreases-list_values : goal.decreases-list_values
decreases-list_values l = 3 * (l.level.now.stop - length l.walk.now.values.items) + 1

abbrev pub decreases-list_value : goal.decreases-list_value
decreases-list_value l = 3 * (l.level.now.stop - length l.walk.now.values.items)

abbrev pub invariant-list_values-loop-v : goal.invariant-list_values-loop-v
invariant-list_values-loop-v l = IsGone l.level.problem.now l.level.number l.level.from l.level.stop l.fn.walk l.walk l.at

abbrev pub decreases-list_values-loop-v : goal.decreases-list_values-loop-v
decreases-list_values-loop-v l = nat_abs (pos 1000000001 -ℤ l.at)
