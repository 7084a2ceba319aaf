use Rattle.std.specs.Prelude.{suc}
use Rattle.qc_model.specs.Optimal.{Optimal}
use Rattle.model_laws.proofs.Bounds.{greatest_bound, least_bound}
use Rattle.model_laws.proofs.Leaves.{optimal_bound}
use Rattle.model_laws.proofs.laws.universal_bounds.Goals as goal

pub returns-clause-all_branches : goal.returns-clause-all_branches
returns-clause-all_branches c = optimal_bound

pub returns-clause-greatest : goal.returns-clause-greatest
returns-clause-greatest c = λ g later x i a t d f p ps. greatest_bound g i a (Optimal g later (suc i)) _ t d f p ps

pub returns-clause-least : goal.returns-clause-least
returns-clause-least c = λ g later x i a t d f p ps. least_bound g i a (Optimal g later (suc i)) _ t d f p ps
