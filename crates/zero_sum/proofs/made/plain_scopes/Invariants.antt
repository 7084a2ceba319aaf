use Rattle.std.proofs.Common.{◌≡◌, ◌++◌, drop, map}
use Rattle.zero_sum.specs.Bounded.{plain}
use Rattle.zero_sum.proofs.made.plain_scopes.Given as goal

abbrev pub invariant-loop-i : goal.invariant-loop-i
invariant-loop-i l = l.scopes.items ++ map plain (drop l.i l.problem.scopes) ≡ map plain l.problem.scopes
