use Rattle.std.proofs.Common.{◌-◌, length}
use Rattle.zero_sum.proofs.stake.+are_plain_from.Given as goal

abbrev pub decreases-are_plain_from : goal.decreases-are_plain_from
decreases-are_plain_from l = length l.problem.now.scopes - l.i
