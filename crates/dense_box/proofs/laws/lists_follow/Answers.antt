use Rattle.dense_box.proofs.Tracking.{list_next, scopes_next}
use Rattle.dense_box.proofs.laws.lists_follow.Goals as goal

pub returns-clause-list : goal.returns-clause-list
returns-clause-list c = list_next

pub returns-clause-scopes : goal.returns-clause-scopes
returns-clause-scopes c = scopes_next
