use Rattle.std.proofs.Common.{◌-◌, length}
use Rattle.zero_sum.proofs.stake.+stake_from.Given as goal

abbrev pub decreases-stake_from : goal.decreases-stake_from
decreases-stake_from l = length l.problem.now.scopes - l.i
