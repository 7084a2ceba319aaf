use Rattle.std.proofs.Common.{◌-◌, length}
use Rattle.zero_sum.proofs.defaults.+defaults_from.Given as goal

abbrev pub decreases-defaults_from : goal.decreases-defaults_from
decreases-defaults_from l = length l.problem.now.scopes - l.i
