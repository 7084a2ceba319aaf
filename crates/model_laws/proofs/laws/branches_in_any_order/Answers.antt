use Rattle.model_laws.proofs.Leaves.{optimal_leaves, optimal_bounds}
use Rattle.model_laws.proofs.Validity.{valid_moves}
use Rattle.model_laws.proofs.laws.branches_in_any_order.Goals as goal

pub returns-clause-best : goal.returns-clause-best
returns-clause-best c = optimal_leaves

pub returns-clause-bound : goal.returns-clause-bound
returns-clause-bound c = optimal_bounds

pub returns-clause-differ : goal.returns-clause-differ
returns-clause-differ c = valid_moves
