use Rattle.proof_tree.proofs.FewCases.{shallow_tree, shallow_first}
use Rattle.proof_tree.proofs.laws.nesting_is_shallow.Goals as goal

pub returns-clause-first : goal.returns-clause-first
returns-clause-first c = shallow_first

pub returns-clause-both : goal.returns-clause-both
returns-clause-both c = shallow_tree
