use Rattle.proof_alike.proofs.Alike.{placed_alike, does_alike}
use Rattle.proof_alike.proofs.laws.trees_do_alike.Goals as goal

pub returns-clause-placed : goal.returns-clause-placed
returns-clause-placed c = placed_alike

pub returns-clause-node : goal.returns-clause-node
returns-clause-node c = does_alike
