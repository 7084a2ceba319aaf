use Rattle.proof_meaning.proofs.HandedOn.{root_handed, node_at, step_at, case_at, leaf_at}
use Rattle.proof_meaning.proofs.laws.fair_boxes_are_handed_on.Goals as goal

pub returns-clause-root : goal.returns-clause-root
returns-clause-root c = root_handed

pub returns-clause-node : goal.returns-clause-node
returns-clause-node c = node_at

pub returns-clause-step : goal.returns-clause-step
returns-clause-step c = step_at

pub returns-clause-case : goal.returns-clause-case
returns-clause-case c = case_at

pub returns-clause-leaf : goal.returns-clause-leaf
returns-clause-leaf c = leaf_at
