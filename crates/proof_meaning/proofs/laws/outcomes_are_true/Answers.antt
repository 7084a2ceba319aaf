use Rattle.proof_meaning.proofs.Outcomes.{outcome_means}
use Rattle.proof_meaning.proofs.laws.outcomes_are_true.Goals as goal

pub returns : goal.returns
returns c = outcome_means
