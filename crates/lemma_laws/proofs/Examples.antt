-- Two games of the worked cases, valid ones, and what their lists show.
use Rattle.std.proofs.Common.{refl, arith}
use Rattle.qc_model.specs.declared.problem.Kind.TheVariants.{Exists, Forall}
use Rattle.qc_model.specs.Game.{IsWon}
use Rattle.qc_model.specs.Valid.{IsValid}
use Rattle.lemma_list.proofs.Cases.{turns, two_turns, turns_proved, differing, same_again, differing_lost}
use Rattle.lemma_laws.proofs.InPlace.{true_won, false_lost}

turns_valid : IsValid turns
turns_valid = record {
  few_scopes = omega arith;
  few_variables = omega arith;
  few_aggregates = omega arith;
  few_constraints = omega arith;
  variable_order = refl;
  constraint_order = refl;
  aggregate_order = refl;
  names = refl;
  distinct_names = refl;
  domains = refl;
  widths = omega arith;
  scopes = refl;
  aggregates = refl;
  constraints = refl;
  sees = (tt, (tt, (tt, (tt, tt))));
  bottlenecks = refl;
}

turns_won : IsWon turns
turns_won = true_won turns two_turns turns_valid turns_proved

differing_valid : IsValid (differing Exists Forall)
differing_valid = record {
  few_scopes = omega arith;
  few_variables = omega arith;
  few_aggregates = omega arith;
  few_constraints = omega arith;
  variable_order = refl;
  constraint_order = refl;
  aggregate_order = refl;
  names = refl;
  distinct_names = refl;
  domains = refl;
  widths = omega arith;
  scopes = refl;
  aggregates = refl;
  constraints = refl;
  sees = (tt, (tt, (tt, tt)));
  bottlenecks = refl;
}

differing_not_won : ¬ IsWon (differing Exists Forall)
differing_not_won = false_lost (differing Exists Forall) (same_again 0) differing_valid differing_lost
