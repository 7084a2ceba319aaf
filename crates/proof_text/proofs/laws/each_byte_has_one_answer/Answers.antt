use Rattle.proof_text.proofs.OneAnswer.{one_answer, stays_stopped}
use Rattle.proof_text.proofs.laws.each_byte_has_one_answer.Goals as goal

pub returns-clause-one : goal.returns-clause-one
returns-clause-one c = one_answer

pub returns-clause-stays : goal.returns-clause-stays
returns-clause-stays c = stays_stopped
