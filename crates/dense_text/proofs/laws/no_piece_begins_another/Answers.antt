use Rattle.dense_text.proofs.Apart.{pieces_apart}
use Rattle.dense_text.proofs.laws.no_piece_begins_another.Goals as goal

pub returns : goal.returns
returns c = pieces_apart
