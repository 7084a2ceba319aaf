use Rattle.qc_model.specs.Optimal.{Optimal}
use Rattle.model_laws.proofs.Universal.{optimal_universal}
use Rattle.model_laws.proofs.Existence.{best_is_one}
use Rattle.model_laws.proofs.laws.universal_positions.Goals as goal

pub returns-clause-any_family : goal.returns-clause-any_family
returns-clause-any_family c = λ g later x i a l. (λ h. h, λ h. h)

pub returns-clause-best : goal.returns-clause-best
returns-clause-best c = optimal_universal

pub returns-clause-one : goal.returns-clause-one
returns-clause-one c = λ g later i d a. best_is_one g d a (Optimal g later i a)
