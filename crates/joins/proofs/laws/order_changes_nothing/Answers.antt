use Rattle.joins.proofs.AnyOrder.{verdict_alike, stands_alike}
use Rattle.joins.proofs.laws.order_changes_nothing.Goals as goal

pub returns-clause-verdict : goal.returns-clause-verdict
returns-clause-verdict c = verdict_alike

pub returns-clause-stands : goal.returns-clause-stands
returns-clause-stands c = stands_alike
