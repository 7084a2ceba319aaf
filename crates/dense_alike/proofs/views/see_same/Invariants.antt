use Rattle.std.proofs.Common.{◌≡◌, drop}
use Rattle.std.specs.List.{list_all}
use Rattle.dense_alike.proofs.Viewing.{seen_same}
use Rattle.dense_alike.proofs.views.see_same.Given as goal

abbrev pub invariant-loop-k : goal.invariant-loop-k
invariant-loop-k l = list_all (seen_same l.problem l.i.0 l.here l.there) (drop l.k l.problem.constraints) ≡ list_all (seen_same l.problem l.i.0 l.here l.there) l.problem.constraints
