use Rattle.proof_meaning.proofs.InnerNodes.{node_means}
use Rattle.proof_meaning.proofs.laws.nodes_mean_their_verdicts.Goals as goal

pub returns : goal.returns
returns c = node_means
