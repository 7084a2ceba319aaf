use Rattle.dense_text.proofs.Spelled.{certificate_spelled}
use Rattle.dense_text.proofs.laws.pieces_spell_certificates.Goals as goal

pub returns : goal.returns
returns c = certificate_spelled
