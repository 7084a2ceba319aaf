use Rattle.text_valid.proofs.Validity.{valid}
use Rattle.text_valid.proofs.laws.unrefused_is_valid.Goals as goal

pub returns : goal.returns
returns c = valid
