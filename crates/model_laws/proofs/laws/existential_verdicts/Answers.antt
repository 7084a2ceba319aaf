use Rattle.std.specs.Prelude.{suc, ◌++◌, IsTrue}
use Rattle.qc_model.specs.Optimal.{Optimal}
use Rattle.model_laws.specs.Positions.{Chosen}
use Rattle.model_laws.proofs.Choosing.{choices_mean, position_mean, plain_part_mean}
use Rattle.model_laws.proofs.OwnValues.{own_mean}
use Rattle.model_laws.proofs.laws.existential_verdicts.Goals as goal

pub returns-clause-choices : goal.returns-clause-choices
returns-clause-choices c = λ g later i e a inside here ls. choices_mean g e a (λ t s. Optimal g later (suc i) (a ++ t) s × IsTrue (inside t s)) (λ p. Chosen g i a (Optimal g later (suc i)) p × IsTrue (here p)) ls

pub returns-clause-position : goal.returns-clause-position
returns-clause-position c = position_mean

pub returns-clause-part : goal.returns-clause-part
returns-clause-part c = plain_part_mean

pub returns-clause-own : goal.returns-clause-own
returns-clause-own c = own_mean
