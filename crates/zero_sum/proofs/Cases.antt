-- Worked cases: games that are zero-sum, and such as aren't, with what the two games would tell of them.
use Rattle.std.proofs.Common.{◌≡◌, refl, inl, true, false, [], ◌∷◌, lit≤}
use Rattle.std.specs.Prelude.{pos, Some, None}
use Rattle.qc_model.specs.declared.problem.Sense.TheVariants.{Min}
use Rattle.qc_model.specs.declared.problem.Fold.TheVariants.{Sum, Greatest, Least}
use Rattle.qc_model.specs.declared.problem.Pred.TheVariants.{IntLe}
use Rattle.qc_model.specs.declared.problem.Arg.TheVariants.{Num}
use Rattle.qc_model.specs.declared.problem.Argument.TheVariants.{One}
use Rattle.qc_model.specs.Content.{Game}
use Rattle.qc_model.specs.Lists.{Among}
use Rattle.qc_model.specs.Game.{IsWon}
use Rattle.qc_model.specs.Plan.{Plan, finish, choose, answer, no_entries, entry}
use Rattle.qc_model.specs.Valid.{IsValid}
use Rattle.qc_model.proofs.Plans.{optimal_wins}
use Rattle.model_laws.specs.Strategies.{optimal_strategies}
use Rattle.model_laws.proofs.Existence.{optimal_exists}
use Rattle.model_laws.proofs.Listed.{optimal_exact}
use Rattle.model_laws.proofs.Computed.{IsOptimum as IsComputed, only_strategy, none_optimal}
use Rattle.model_laws.proofs.CaseGames.{rule, one_var, of_variable, of_aggregate, minimise, exists, forall_scope, opposed, unopposed}
use Rattle.proof_tree.specs.Meaning.{IsOptimum}
use Rattle.zero_sum.specs.Stake.{is_zero_sum, stake_of, defaults_fit}
use Rattle.zero_sum.specs.Bounded.{bounded_game}
use Rattle.zero_sum.proofs.Law.{optimum_by_two}
use Rattle.zero_sum.proofs.CaseGames.{stake, answered, priced, unanswered, two_rounds}

won : (h : Game) (s : Plan) → Among s (optimal_strategies h h.scopes 0 []) → IsWon h
won h s m = optimal_wins h h.scopes 0 [] s ((optimal_exact h h.scopes 0 []).to s m)

lost : (h : Game) → optimal_strategies h h.scopes 0 [] ≡ [] → ¬ IsWon h
lost h none w = let r = optimal_exists h h.scopes 0 [] w in none_optimal h none r.0 r.1

-- THE GREATEST, AS SMALL AS CAN BE. The player answers t with a z that is no smaller; it answers for z in the goal.
abbrev minimax : Game
minimax = answered (Greatest (pos 7))

minimax_is_valid : IsValid minimax
minimax_is_valid = record {
  few_scopes = lit≤ tt;
  few_variables = lit≤ tt;
  few_aggregates = lit≤ tt;
  few_constraints = lit≤ tt;
  variable_order = refl;
  constraint_order = refl;
  aggregate_order = refl;
  names = refl;
  distinct_names = refl;
  domains = refl;
  widths = lit≤ tt;
  scopes = refl;
  aggregates = refl;
  constraints = refl;
  sees = (refl, ((lit≤ tt, tt), (tt, tt)));
  bottlenecks = refl;
}

at_stake : stake_of minimax ≡ Some (stake Min 1 3)
at_stake = refl

-- nobody wishes anything in the game bounded by 1, and one more constraint stands in its goal
bounded_by_one : bounded_game minimax (stake Min 1 3) (pos 1) ≡ record {
  scopes = exists None ∷ forall_scope ∷ exists None ∷ [];
  variables = minimax.variables;
  aggregates = [];
  constraints = rule 3 IntLe (one_var 0 ∷ one_var 1 ∷ []) ∷ rule 3 IntLe (one_var 1 ∷ One (Num (pos 1)) ∷ []) ∷ [];
}
bounded_by_one = refl

-- against t = 1 either z will do for 2, against t = 2 only z = 2
abbrev answers : Plan
answers = choose [] (answer (entry (pos 1 ∷ []) (choose (pos 1 ∷ []) finish) (entry (pos 2 ∷ []) (choose (pos 2 ∷ []) finish) no_entries)))

two_is_had : IsWon (bounded_game minimax (stake Min 1 3) (pos 2))
two_is_had = won (bounded_game minimax (stake Min 1 3) (pos 2)) answers (inl refl)

one_is_not : ¬ IsWon (bounded_game minimax (stake Min 1 3) (pos 1))
one_is_not = lost (bounded_game minimax (stake Min 1 3) (pos 1)) refl

-- no constraint keeps the opponent from moving, so its default doesn't matter, and 2 is the optimum
default_is_idle : defaults_fit minimax (pos 2) ≡ true
default_is_idle = refl

minimax_optimum : IsOptimum minimax.scopes minimax (pos 2)
minimax_optimum = ((optimum_by_two minimax (stake Min 1 3) minimax_is_valid at_stake).optimum (pos 2) refl two_is_had one_is_not).1

-- through two rounds the player answers for the innermost variable
innermost : stake_of two_rounds ≡ Some (stake Min 3 5)
innermost = refl

-- A SUM ISN'T ZERO-SUM IN THIS SENSE. The same two games would tell 2 of it, but the least sum is 1 + 2.
sum_is_not : is_zero_sum (answered Sum) ≡ false
sum_is_not = refl

sum_bounded_alike : bounded_game (answered Sum) (stake Min 1 3) (pos 2) ≡ bounded_game minimax (stake Min 1 3) (pos 2)
sum_bounded_alike = refl

sum_optimum : IsComputed (answered Sum) (of_aggregate 0) answers (pos 3)
sum_optimum = only_strategy (answered Sum) (of_aggregate 0) answers (pos 3) refl refl

-- the least, as small as can be, is not by the worst branch either: one branch that is small would do
least_is_not : is_zero_sum (answered (Least (pos 7))) ≡ false
least_is_not = refl

-- A FOLLOWER WITH A WISH. Without wishes the follower would let the leader have the cost 0, but it wishes y = 1, at the cost 4.
follower_is_not : is_zero_sum opposed ≡ false
follower_is_not = refl

zero_would_be_had : IsWon (bounded_game opposed (stake Min 2 2) (pos 0))
zero_would_be_had = won (bounded_game opposed (stake Min 2 2) (pos 0)) (choose (pos 0 ∷ []) (choose (pos 0 ∷ pos 0 ∷ pos 0 ∷ []) finish)) (inl refl)

follower_optimum : IsComputed opposed (of_variable 2) (choose (pos 0 ∷ []) (choose (pos 1 ∷ pos 4 ∷ pos 0 ∷ []) finish)) (pos 4)
follower_optimum = only_strategy opposed (of_variable 2) (choose (pos 0 ∷ []) (choose (pos 1 ∷ pos 4 ∷ pos 0 ∷ []) finish)) (pos 4) refl refl

-- A VARIABLE AS THE TARGET. The player answers for x before the opponent moves: only with x = 2 the opponent has no move, so the
-- optimum is 2. In the goal, which is never reached then, nobody would answer for x.
price_at_stake : stake_of priced ≡ Some (stake Min 0 0)
price_at_stake = refl

price_of_two : IsWon (bounded_game priced (stake Min 0 0) (pos 2))
price_of_two = won (bounded_game priced (stake Min 0 0) (pos 2)) (choose (pos 2 ∷ []) (answer no_entries)) (inl refl)

price_of_one : ¬ IsWon (bounded_game priced (stake Min 0 0) (pos 1))
price_of_one = lost (bounded_game priced (stake Min 0 0) (pos 1)) refl

price_in_goal : IsWon (bounded_game priced (stake Min 0 2) (pos 1))
price_in_goal = won (bounded_game priced (stake Min 0 2) (pos 1)) (choose (pos 2 ∷ []) (answer no_entries)) (inl refl)

price_optimum : IsComputed priced (of_variable 0) (choose (pos 2 ∷ []) (answer no_entries)) (pos 2)
price_optimum = only_strategy priced (of_variable 0) (choose (pos 2 ∷ []) (answer no_entries)) (pos 2) refl refl

-- WHERE THE OPPONENT MOVES AGAIN AT ONCE nobody can answer for t. In the goal the two games would tell 1, since after t = 2 it
-- isn't reached; but the greatest t is 2.
no_place : is_zero_sum unanswered ≡ false
no_place = refl

one_in_goal : IsWon (bounded_game unanswered (stake Min 0 3) (pos 1))
one_in_goal = won (bounded_game unanswered (stake Min 0 3) (pos 1)) (choose [] (answer (entry (pos 1 ∷ []) (answer (entry (pos 1 ∷ []) finish no_entries)) (entry (pos 2 ∷ []) (answer no_entries) no_entries)))) (inl refl)

zero_in_goal : ¬ IsWon (bounded_game unanswered (stake Min 0 3) (pos 0))
zero_in_goal = lost (bounded_game unanswered (stake Min 0 3) (pos 0)) refl

unanswered_optimum : IsComputed unanswered (of_aggregate 0) (choose [] (answer (entry (pos 1 ∷ []) (answer (entry (pos 1 ∷ []) finish no_entries)) (entry (pos 2 ∷ []) (answer no_entries) no_entries)))) (pos 2)
unanswered_optimum = only_strategy unanswered (of_aggregate 0) (choose [] (answer (entry (pos 1 ∷ []) (answer (entry (pos 1 ∷ []) finish no_entries)) (entry (pos 2 ∷ []) (answer no_entries) no_entries)))) (pos 2) refl refl

-- AN OPPONENT WITHOUT A MOVE. With x = 0 it has none, and the greatest t is then 7; with x = 1 it is 1, the optimum. The game
-- bounded by 0 is won with x = 0, whatever the default: so the default has to fit for the two games to tell.
abbrev stuck : Game
stuck = unopposed (minimise (of_aggregate 0)) (Greatest (pos 7))

stuck_at_stake : stake_of stuck ≡ Some (stake Min 1 2)
stuck_at_stake = refl

default_of_seven : defaults_fit stuck (pos 0) ≡ false
default_of_seven = refl

default_fits_seven : defaults_fit stuck (pos 7) ≡ true
default_fits_seven = refl

zero_by_default : IsWon (bounded_game stuck (stake Min 1 2) (pos 0))
zero_by_default = won (bounded_game stuck (stake Min 1 2) (pos 0)) (choose (pos 0 ∷ []) (answer no_entries)) (inl refl)

stuck_optimum : IsComputed stuck (of_aggregate 0) (choose (pos 1 ∷ []) (answer (entry (pos 1 ∷ []) finish no_entries))) (pos 1)
stuck_optimum = only_strategy stuck (of_aggregate 0) (choose (pos 1 ∷ []) (answer (entry (pos 1 ∷ []) finish no_entries))) (pos 1) refl refl
