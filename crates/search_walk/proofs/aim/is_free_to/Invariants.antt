use Rattle.std.proofs.Common.{◌≡◌, drop, suc}
use Rattle.qc_model.specs.Block.{no_condition_to}
use Rattle.search_walk.proofs.aim.is_free_to.Given as goal

abbrev pub invariant-loop-k : goal.invariant-loop-k
invariant-loop-k l = no_condition_to l.last (drop l.k l.problem.scopes) l.k ≡ no_condition_to l.last (drop (suc l.i) l.problem.scopes) (suc l.i)
