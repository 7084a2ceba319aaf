use Rattle.joins.proofs.AnyOrder.{open_unknown}
use Rattle.joins.proofs.laws.open_scopes_are_unknown.Goals as goal

pub returns : goal.returns
returns c = open_unknown
