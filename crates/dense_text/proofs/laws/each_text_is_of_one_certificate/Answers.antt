use Rattle.dense_text.proofs.OneText.{one_text}
use Rattle.dense_text.proofs.laws.each_text_is_of_one_certificate.Goals as goal

pub returns : goal.returns
returns c = one_text
