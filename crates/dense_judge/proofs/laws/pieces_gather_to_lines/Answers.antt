use Rattle.dense_judge.proofs.Gathers.{pieces_gather}
use Rattle.dense_judge.proofs.laws.pieces_gather_to_lines.Goals as goal

pub returns : goal.returns
returns c = pieces_gather
