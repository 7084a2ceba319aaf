use Rattle.search_walk.proofs.Ruling.{wished_is}
use Rattle.search_walk.proofs.aim.is_wished.Goals as goal

pub returns-then-k-last : goal.returns-then-k-last
returns-then-k-last c = λ later s e. wished_is c.args.problem.now.scopes c.args.k c.args.last later c.scope.result.now s c.is_some.result e c.scope.ensures c.if-k-last.true c.is_some.ensures
