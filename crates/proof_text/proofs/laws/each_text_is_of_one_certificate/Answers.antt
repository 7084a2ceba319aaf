use Rattle.proof_text.proofs.UniqueTrees.{one_certificate}
use Rattle.proof_text.proofs.laws.each_text_is_of_one_certificate.Goals as goal

pub returns : goal.returns
returns c = one_certificate
