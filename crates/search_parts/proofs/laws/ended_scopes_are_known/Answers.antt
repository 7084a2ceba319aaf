use Rattle.search_parts.proofs.Outdone.{ended_known}
use Rattle.search_parts.proofs.laws.ended_scopes_are_known.Goals as goal

pub returns : goal.returns
returns c = ended_known
