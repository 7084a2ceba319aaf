use Rattle.prop_yard.proofs.Boxes.{counted}
use Rattle.prop_yard.proofs.worked.Goals as goal

pub returns-in-Fast : goal.returns-in-Fast
returns-in-Fast c = counted c.close.result c.args.problem.now c.close.ensures.closed

pub returns-in-Ends : goal.returns-in-Ends
returns-in-Ends c = counted c.close-in-Ends.result c.args.problem.now c.close-in-Ends.ensures.closed
