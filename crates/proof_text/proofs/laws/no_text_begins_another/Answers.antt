use Rattle.proof_text.proofs.Prefixes.{no_proper_front}
use Rattle.proof_text.proofs.laws.no_text_begins_another.Goals as goal

pub returns : goal.returns
returns c = no_proper_front
