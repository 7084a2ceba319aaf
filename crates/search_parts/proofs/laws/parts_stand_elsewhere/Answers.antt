use Rattle.search_parts.proofs.Elsewhere.{part_elsewhere}
use Rattle.search_parts.proofs.laws.parts_stand_elsewhere.Goals as goal

pub returns : goal.returns
returns c = part_elsewhere
