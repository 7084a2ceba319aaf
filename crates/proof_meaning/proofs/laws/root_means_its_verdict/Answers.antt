use Rattle.proof_meaning.proofs.Outcomes.{root_verdict}
use Rattle.proof_meaning.proofs.laws.root_means_its_verdict.Goals as goal

pub returns : goal.returns
returns c = root_verdict
