use Rattle.proof_tree.proofs.FewCases.{few_cases}
use Rattle.proof_tree.proofs.laws.cases_are_few.Goals as goal

pub returns : goal.returns
returns c = few_cases
