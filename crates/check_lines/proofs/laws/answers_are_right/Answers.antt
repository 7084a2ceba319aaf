use Rattle.check_lines.proofs.Answering.{trees, own, others}
use Rattle.check_lines.proofs.laws.answers_are_right.Goals as goal

pub returns-clause-trees : goal.returns-clause-trees
returns-clause-trees c = λ g t o a deep placed. trees g t o a deep placed

pub returns-clause-own : goal.returns-clause-own
returns-clause-own c = λ g t f a. own g t f a

pub returns-clause-others : goal.returns-clause-others
returns-clause-others c = λ g ls f a. others g ls f a
