use Rattle.zero_sum.proofs.Steps.{plain_more, plain_not}
use Rattle.zero_sum.proofs.stake.+are_plain_from.Goals as goal

pub returns-then-is_none : goal.returns-then-is_none
returns-then-is_none t c =
    plain_more c.args.problem.now.scopes c.args.i c.scope.result.now c.is_none.result c.are_plain_from.result c.scope.ensures c.is_none.ensures c.if-is_none.true c.are_plain_from.ensures

pub returns-else-is_none : goal.returns-else-is_none
returns-else-is_none t c = plain_not c.args.problem.now.scopes c.args.i c.scope.result.now c.is_none.result c.scope.ensures c.is_none.ensures c.if-is_none.false
