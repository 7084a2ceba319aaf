use Rattle.box_laws.proofs.Trails.{box_back, past_back}
use Rattle.box_laws.proofs.laws.stores_come_back.Goals as goal

pub returns-clause-content : goal.returns-clause-content
returns-clause-content c = box_back

pub returns-clause-past : goal.returns-clause-past
returns-clause-past c = past_back
