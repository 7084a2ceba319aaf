use Rattle.std.specs.Prelude.{suc}
use Rattle.qc_model.specs.Optimal.{Optimal}
use Rattle.model_laws.proofs.Choices.{plain_position, condition_position, own_value_is, best_choice, held_by_best, held_by_bound}
use Rattle.model_laws.proofs.laws.existential_positions.Goals as goal

pub returns-clause-plain : goal.returns-clause-plain
returns-clause-plain c = plain_position

pub returns-clause-optimising : goal.returns-clause-optimising
returns-clause-optimising c = condition_position

pub returns-clause-own : goal.returns-clause-own
returns-clause-own c = own_value_is

pub returns-clause-best : goal.returns-clause-best
returns-clause-best c = λ g later e i a t w. best_choice g e i a (Optimal g later (suc i)) t w

pub returns-clause-held_by_best : goal.returns-clause-held_by_best
returns-clause-held_by_best c = λ g later e i u w v. held_by_best g e u (Optimal g later i u) w v

pub returns-clause-held_by_bound : goal.returns-clause-held_by_bound
returns-clause-held_by_bound c = λ g later c e i u w p. held_by_bound g c e u (Optimal g later i u) w p
