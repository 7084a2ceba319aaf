use Rattle.std.proofs.Common.{◌≡◌, drop}
use Rattle.search_box.specs.Complete.{each_shown}
use Rattle.search_box.proofs.mentioning.all_shown.Given as goal

abbrev pub invariant-loop-at : goal.invariant-loop-at
invariant-loop-at l = each_shown (drop l.at l.problem.constraints) ≡ each_shown l.problem.constraints
