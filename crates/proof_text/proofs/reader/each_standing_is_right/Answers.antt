use Rattle.proof_text.proofs.Standings.{tells}
use Rattle.proof_text.proofs.reader.each_standing_is_right.Goals as goal

pub returns : goal.returns
returns c = tells
