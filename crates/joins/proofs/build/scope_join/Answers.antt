use Rattle.joins.proofs.Takings.{joins_player}
use Rattle.joins.proofs.build.scope_join.Goals as goal

pub returns-in_ok-join-in-Exists : goal.returns-in_ok-join-in-Exists
returns-in_ok-join-in-Exists c = λ s e. joins_player c.args.problem.now c.args.i.0 s c.scope.result.now c.in_ok-join-in-Exists.join e c.scope.ensures c.in-Exists.is c.in_ok-join-in-Exists.ensures.scope
