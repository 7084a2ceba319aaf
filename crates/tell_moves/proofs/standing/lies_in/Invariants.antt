use Rattle.std.proofs.Common.{◌≡◌, drop}
use Rattle.qc_model.specs.Game.{scope_domains}
use Rattle.qc_play.specs.Play.{lies_in}
use Rattle.tell_moves.proofs.standing.lies_in.Given as goal

abbrev pub invariant-loop-k : goal.invariant-loop-k
invariant-loop-k l =
    lies_in (drop l.k l.tuple) (drop l.k (scope_domains l.level.problem.now l.level.number)) ≡ lies_in l.tuple (scope_domains l.level.problem.now l.level.number)
