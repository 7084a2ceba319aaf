use Rattle.proof_meaning.proofs.AnsweredTrees.{root_answered}
use Rattle.proof_meaning.proofs.laws.trees_answer_all_tuples.Goals as goal

pub returns : goal.returns
returns c = root_answered
